-- What a request sets of its message beside its body (google/api/http.proto, HttpRule).
use Rattle.std.specs.Prelude.{List}
use Rattle.field_settings.specs.declared.setting.Setting.{Setting}

-- the settings by the query, and by the path, in the order of the template's variables
pub record Assignments : Type 0 where
  pub query : List Setting
  pub path : List Setting

-- these settings
abbrev pub assignments : List Setting → List Setting → Assignments
assignments query path = record { query = query; path = path }
