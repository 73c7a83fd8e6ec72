-- The order of keys is total.
use Rattle.std.proofs.Common.{◌≡◌, Bool, true, false, refl, ap}
use Rattle.std.proofs.lemmas.Map.Lookups.{exact_signed, exact_bytes}
use Rattle.std.specs.declared.cmp.Ordering.TheVariants.{Less, Equal}
use Rattle.std.specs.Ordering.{bool_cmp, ordering_reverse}
use Rattle.std.specs.Cmp.{bool_cmp_total, IsTotalOrder}
use Rattle.std.proofs.lemmas.Cmp.{int_cmp_total, nat_list_cmp_total}
use Rattle.schema.specs.Pairs.{key_cmp}
use Rattle.schema.specs.declared.key.Key.{Key}
use Rattle.schema.specs.declared.key.Key.TheVariants.{Number, Truth, Text}

-- seen from the other key, the order is reversed
pub key_back : (x y : Key) → key_cmp x y ≡ ordering_reverse (key_cmp y x)
key_back (Number a) (Number b) = int_cmp_total.antisymm a b
key_back (Number a) (Truth b) = refl
key_back (Number a) (Text b) = refl
key_back (Truth a) (Number b) = refl
key_back (Truth a) (Truth b) = bool_cmp_total.antisymm a b
key_back (Truth a) (Text b) = refl
key_back (Text a) (Number b) = refl
key_back (Text a) (Truth b) = refl
key_back (Text a) (Text b) = nat_list_cmp_total.antisymm a b

-- what is below a key is below those above it
pub key_trans : (x y z : Key) → key_cmp x y ≡ Less → key_cmp y z ≡ Less → key_cmp x z ≡ Less
key_trans (Number a) (Number b) (Number c) p q = int_cmp_total.trans a b c p q
key_trans (Truth a) (Truth b) (Truth c) p q = bool_cmp_total.trans a b c p q
key_trans (Text a) (Text b) (Text c) p q = nat_list_cmp_total.trans a b c p q
key_trans (Number a) y (Truth c) p q = refl
key_trans (Number a) y (Text c) p q = refl
key_trans (Truth a) y (Text c) p q = refl
key_trans x y z p q = absurd cc

-- equal keys stand alike to every other
pub key_congr : (x y z : Key) → key_cmp x y ≡ Equal → key_cmp x z ≡ key_cmp y z
key_congr (Number a) (Number b) (Number c) p = int_cmp_total.congr a b c p
key_congr (Number a) (Number b) z p = refl
key_congr (Truth a) (Truth b) (Truth c) p = bool_cmp_total.congr a b c p
key_congr (Truth a) (Truth b) z p = refl
key_congr (Text a) (Text b) (Text c) p = nat_list_cmp_total.congr a b c p
key_congr (Text a) (Text b) z p = refl
key_congr x y z p = absurd cc

truths_same : (a b : Bool) → bool_cmp a b ≡ Equal → a ≡ b
truths_same true true p = refl
truths_same false false p = refl
truths_same a b p = absurd cc

-- keys that stand alike are one key
pub key_same : (x y : Key) → key_cmp x y ≡ Equal → x ≡ y
key_same (Number a) (Number b) p = ap Number (exact_signed a b p)
key_same (Truth a) (Truth b) p = ap Truth (truths_same a b p)
key_same (Text a) (Text b) p = ap Text (exact_bytes a b p)
key_same x y p = absurd cc

-- the order of keys is a total order
pub key_order : IsTotalOrder key_cmp
key_order = record { antisymm = key_back; trans = key_trans; congr = key_congr }
