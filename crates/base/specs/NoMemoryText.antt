-- The text of the answer of a call that finds no memory.
use Rattle.std.specs.Prelude.{ℕ, List, codes}

-- what is printed where no memory was found
abbrev pub no_memory_text : List ℕ
no_memory_text = codes "out of memory"
