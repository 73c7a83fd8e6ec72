-- Fields that are appended one by one, and what stays of bytes to which others are appended.
use Rattle.std.proofs.Common.{◌≡◌, ◌+◌, ◌<◌, ◌++◌, ◌∷◌, ℕ, List, length, get_or, drop, ap, sym, ◌∙◌, append_assoc}
use Rattle.std.specs.List.{flat_map}
use Rattle.std.proofs.lemmas.List.{drop_more}
use Rattle.base.specs.Extends.{Extends}
use Rattle.base.proofs.ExtendsLemmas.{extends_more}
use Rattle.base.specs.declared.field_pair.FieldPair.{FieldPair}
use Rattle.hpack_codec.specs.EncodedBlock.{encoded_field, pair_of, pairs_of}

-- what is appended to bytes that begin with others leaves them in front
pub extends_field : (a b c more : List ℕ) → Extends a b → c ≡ b ++ more → Extends a c
extends_field a b c more p e = extends_more a b c p (more, e)

-- the bytes of fields, one after another
abbrev pub bytes_of : List FieldPair → List ℕ
bytes_of ps = flat_map encoded_field (pairs_of ps)

-- one field more is appended
pub one_more : (out new name value whole : List ℕ) (fields : List FieldPair) (i : ℕ) (item : FieldPair) → i < length fields → item ≡ get_or fields i item
    → name ≡ item.name → value ≡ item.value → new ≡ out ++ encoded_field (name, value) → out ++ bytes_of (drop i fields) ≡ whole → new ++ bytes_of (drop (i + 1) fields) ≡ whole
one_more out new name value whole fields i item h e n v f t =
    let rest = bytes_of (drop (i + 1) fields) in
    let split : drop i fields ≡ item ∷ drop (i + 1) fields = drop_more fields i item h ∙ ap (λ (p : FieldPair). p ∷ drop (i + 1) fields) (sym e) in
    let field : encoded_field (name, value) ≡ encoded_field (pair_of item) = ap (λ (x : List ℕ). encoded_field (x, value)) n ∙ ap (λ (y : List ℕ). encoded_field (item.name, y)) v in
    ap (λ (xs : List ℕ). xs ++ rest) f
    ∙ (append_assoc out (encoded_field (name, value)) rest
    ∙ (ap (λ (xs : List ℕ). out ++ (xs ++ rest)) field
    ∙ (ap (λ (ps : List FieldPair). out ++ bytes_of ps) (sym split) ∙ t)))
