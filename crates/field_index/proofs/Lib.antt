-- What is put into a map from names or from numbers.
mod MapLemmas
-- The set of the numbers of a list, with one number more.
mod NumberLemmas
