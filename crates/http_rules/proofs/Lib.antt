-- Laws of templates, which the proofs of other crates cite.
pub mod Theorems
-- The reading machine reads the grammar: what it reads is a template, and each template is read.
pub mod PartLemmas
pub mod MachineReads
pub mod MachineRuns
-- Faults end the longest prefix that begins a template (`parse_template`, `fault_ends_longest_prefix`).
pub mod PrefixLemmas
pub mod BuildLemmas
pub mod AnswerLemmas
-- Each text has one reading (`parse_template`, `a_text_has_one_reading`).
pub mod ReadingLemmas
-- The ranges of variables (`ranges_are_in_order`, `variables_take_segments`).
pub mod RangeLemmas
-- What is printed means the same template (`put_template`, `printed_means_the_same`).
pub mod PrintLemmas
-- A template fits a path in one way, and its spans lie inside (`fits_in_one_way`, `spans_lie_inside`).
pub mod SpanLemmas
-- Literals fit their text (`literal_takes_its_bytes`, `literals_fit_their_text`).
pub mod MatchLemmas
-- What a variable takes, decoded (`capture`).
pub mod DecodingLemmas
-- Decoding but for slashes against decoding whole (`without_escaped_slashes`, `decodings_differ_at_slashes`).
pub mod SlashLemmas
-- The test of routes, and their texts (`same_route_is_tested`, `first_repeated_route`).
pub mod RouteLemmas
-- Bindings that repeat a route (`routes_apart_repeat_none`, `first_repeated_route`).
pub mod RepeatLemmas
-- Worked examples of the definitions.
pub mod StandardFacts
