use Rattle.std.proofs.Common.{◌++◌, ◌+◌, ◌≤◌, ℕ, List, take}
use Rattle.http1_front.specs.declared.part.Part.{Part}
use Rattle.http1_front.specs.PartScan.{IsScanned}
use Rattle.http1_front.proofs.scan.find_end.Given as goal

abbrev pub invariant-loop-i : goal.invariant-loop-i
invariant-loop-i l =
    (l.ended ≤ l.fn.lines + l.i)
    × ((part : Part) (seen : List ℕ) → IsScanned part seen l.fn.start l.fn.lines
    → IsScanned part (seen ++ take l.i l.bytes) l.place l.ended)
