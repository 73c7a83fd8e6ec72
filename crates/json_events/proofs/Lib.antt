-- A string stands for one text, which is UTF-8 (`texts_mean_one_value`), and the machine of strings
-- accepts exactly the spellings of the grammar.
pub mod strings
-- A number is one integer at most (`texts_mean_one_value`), and the machine of numbers accepts exactly
-- the spellings of the grammar.
pub mod numbers
-- What the writers append means their argument (`written_texts_mean_their_values`).
pub mod writing
-- The machine reads a list of bytes with these tokens exactly where it is a text with them, which has
-- one tree (`texts_have_one_tree`).
pub mod texts
-- No state of the machine is a dead end, it counts bytes and brackets, and what it has not given has not ended.
pub mod machine
-- What a reader stands for, from call to call, and its faults (`readers_stand_for_the_front_of_a_text`,
-- `fronts_have_one_list_of_tokens`, `faults_have_the_place_of_the_longest_front`).
pub mod reading
-- Values and texts of the standard, computed by the definitions.
pub mod facts
