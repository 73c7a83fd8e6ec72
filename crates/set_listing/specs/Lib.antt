pub use Rattle.http_rules.specs.Template
pub use Rattle.http_rules.specs.TemplateText
pub use Rattle.linked_api.specs.LinkedApi
pub use Rattle.linked_api.specs.SmallApi
pub mod RouteLines
pub mod PrintedExamples
