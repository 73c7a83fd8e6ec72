-- One byte of a scan: `Place::after`.
mod PlaceLemmas
-- Many of them: `find_end`.
mod ScanLemmas
-- A part that is gathered: `PartReader::read`.
mod ReadingLemmas
