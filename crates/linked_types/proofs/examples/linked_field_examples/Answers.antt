use lib.Utf8.{encode}
use Rattle.std.proofs.Common.{refl}
use Rattle.std.specs.Str.{chars}
use Rattle.linked_types.proofs.examples.linked_field_examples.Goals as goal

pub returns : goal.returns
unfolding chars encode
returns c = record {
  types = record {
    double = refl;
    float = refl;
    int64 = refl;
    uint64 = refl;
    int32 = refl;
    fixed64 = refl;
    fixed32 = refl;
    bool = refl;
    string = refl;
    group = refl;
    message = refl;
    bytes = refl;
    uint32 = refl;
    enum = refl;
    sfixed32 = refl;
    sfixed64 = refl;
    sint32 = refl;
    sint64 = refl;
    zero = refl;
    nineteen = refl;
    negative = refl;
  };
  packing = record {
    absent = refl;
    declared = refl;
    declined = refl;
    proto2_absent = refl;
    proto2_declared = refl;
    proto2_declined = refl;
    bools = refl;
    enums = refl;
    strings = refl;
    bytes = refl;
    messages = refl;
    groups = refl;
    singular = refl;
  };
  presence = record {
    plain = refl;
    string = refl;
    enum = refl;
    optional = refl;
    optional_in_its_oneof = refl;
    member = refl;
    message = refl;
    list = refl;
    message_list = refl;
    proto2_plain = refl;
    proto2_list = refl;
  };
  shapes = record {
    plain = refl;
    list = refl;
    first = refl;
    optional = refl;
    second = refl;
    negative = refl;
    map = refl;
    messages = refl;
  };
  kinds = record {
    scalar = refl;
    message = refl;
    enum = refl;
    map = refl;
    entry = refl;
    unknown = refl;
    apart = refl;
    double = refl;
  };
  whole = record {
    list = refl;
    declared_json = refl;
    negative = refl;
  };
  known = record {
    timestamp = refl;
    duration = refl;
    field_mask = refl;
    int32_value = refl;
    shelf = refl;
    elsewhere = refl;
  };
}
