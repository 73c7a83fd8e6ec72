-- A map from lists of numbers after a number was put into it.
pub mod NumberMaps
-- What is chosen of oneofs (`choose`, `chooses_other`).
pub mod Choices
-- Where the settings of paths stand, and an item more in one of them (`append`, `extend_at`).
pub mod Places
-- What names name (`target_of`).
pub mod Names
-- The settings of assignments with one more (`Gathered::set`).
pub mod Gather
-- Whether a name clashes with those that were set (`Gathered::clashes`).
pub mod Clashes
-- What is judged of a name (`judge`).
pub mod JudgedNames
-- Reading the parameters one after another (`read_query`).
pub mod QueryRuns
-- What is read of a query is one thing, and there is one (`one_reading_of_a_query`, `every_query_is_read`,
-- `the_first_fault_counts`).
pub mod OneReading
-- Each field has one setting (`each_field_has_one_setting`).
pub mod OneSetting
-- What is named is found again by its numbers, and what is set of it fits (`settings_fit`).
pub mod Leading
pub mod Fitting
