-- What a write may stop at (`put_message`), texts of so many levels, and the worked examples.
mod StopLemmas
mod LevelLemmas
mod PartLemmas
mod ShownLemmas
mod OutputExampleFacts
mod KnownPlaceFacts
-- The name of the first value that has a number.
mod NameLemmas
-- What is shown is read back (`shown_texts_mean_their_values`): texts of trees, and what stands in quotes as it is.
mod TreeTexts
mod PlainTexts
-- Scalars and keys.
mod ShownTokens
mod ShownNames
mod ShownScalars
mod ShownDefaults
-- Where a value may stand, and lists and maps.
mod ShownSpots
mod ShownLists
-- Messages by their members, slots, wrappers, and messages of so many levels.
mod ShownFields
mod ShownMembers
mod ShownSlots
mod ShownWrappers
mod ShownMessages
-- The law, and its worked examples.
mod ShownTexts
mod ShownExampleFacts
