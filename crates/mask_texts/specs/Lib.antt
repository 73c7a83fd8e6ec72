pub mod MaskTexts
pub mod PrintablePaths
pub mod MaskItems
pub mod MaskExamples
