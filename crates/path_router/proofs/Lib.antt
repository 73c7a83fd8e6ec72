-- The order of bindings is strict, and total among those that fit (`order_is_strict`, `order_is_total`).
pub mod OrderLemmas
-- A part of a text that ends before the first byte of a kind.
pub mod EndLemmas
-- A target has one path at most (`one_path_of_a_target`, `target_path`).
pub mod TargetLemmas
-- A path is cut at its slashes in one way.
pub mod PieceLemmas
-- Segments take the pieces of a path one by one.
pub mod TakeLemmas
-- What segments take of pieces, and where the spans lie (`span_in`).
pub mod ShareLemmas
-- A template fits a path where its segments take the part before the verb (`fit`).
pub mod FitLemmas
-- Of two bindings that fit, one precedes the other (`order_is_total`).
pub mod TotalLemmas
-- No segment of a path that a template fits is empty (`no_segment_is_empty`, `fit_examples`).
pub mod EmptyLemmas
-- A request has one answer at most, and spans lie inside the path (`one_choice`, `found_spans_lie_inside`).
pub mod ChoiceLemmas
-- The search, one binding on (`first_served`).
pub mod SearchLemmas
-- The bits of the methods that fit, one binding on (`methods_that_fit`).
pub mod BitLemmas
-- The methods of bindings in their order (`methods_in`, `numbers_in`, `methods_are_in_order`).
pub mod MethodLemmas
-- What a search of rising texts finds (`place_of`).
pub mod PlaceLemmas
-- The methods in order are as many as the bindings have, each once (`method_count`, `methods_are_in_order`).
pub mod CountLemmas
-- Whether a template fits a path can be told (`each_request_has_a_choice`).
pub mod DecidedFits
-- Each request has a choice (`each_request_has_a_choice`).
pub mod EachChoice
-- Which targets have a path (`which_targets_have_paths`).
pub mod EachTarget
