-- A text means one item or has one fault (`one_reading_of_a_leaf`, `items_and_faults_are_apart`).
mod OneLeafReading
-- Each text means an item, or there is something wrong with it (`every_leaf_text_is_read`).
mod EachLeafText
-- What a text means is valid (`leaves_are_valid`).
mod ValidLeaves
