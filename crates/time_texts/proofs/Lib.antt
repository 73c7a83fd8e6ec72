-- DigitLemmas: digits, their values, and numbers in so many digits. FractionLemmas: fractions, and what is written for
-- billionths. DurationLemmas, TimestampLemmas: how a text is cut into its parts. TimestampReads: what is read of a
-- timestamp's. ReadingLemmas: what one computes is what is read. PrintableLemmas: what has a text. ShownLemmas,
-- LawLemmas: the laws. UtcLemmas: the text that one computes for an instant. ExampleFacts: the examples.
mod DigitLemmas
mod FractionLemmas
mod DurationLemmas
mod TimestampLemmas
mod TimestampReads
mod ShownLemmas
mod LawLemmas
mod ReadingLemmas
mod PrintableLemmas
mod ExampleFacts
mod UtcLemmas
