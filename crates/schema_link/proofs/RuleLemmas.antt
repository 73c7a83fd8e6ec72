-- The rules of methods, each with the index of its method.
use Rattle.std.proofs.Common.{◌≡◌, ◌++◌, ◌+◌, ◌<◌, ℕ, List, [], ◌∷◌, length, map, refl, sym, ap, arith, ◌∙◌}
use Rattle.std.specs.List.{AllByRecursion, flat_map}
use Rattle.base.proofs.EachLemmas.{each_joined, each_weaker}
use Rattle.descriptors.specs.declared.file_set.HttpInfo.{HttpInfo}
use Rattle.descriptor_pool.specs.SetMethods.{BoundMethod, all_rules, method_rules}
use Rattle.schema_link.specs.SetApi.{NumberedRule, numbered, numbered_rules}

-- what a function gives of numbered rules of one method
map_numbered : {B : Type 0} (f : HttpInfo → B) (call : ℕ) (rs : List HttpInfo) (more : List NumberedRule)
    → map (λ (r : NumberedRule). f r.rule) (map (numbered call) rs ++ more) ≡ map f rs
    ++ map (λ (r : NumberedRule). f r.rule) more
map_numbered f call [] more = refl
map_numbered f call (r ∷ rs) more = ap (λ xs. f r ∷ xs) (map_numbered f call rs more)

-- what a function gives of joined lists
map_joined : {A B : Type 0} (f : A → B) (xs ys : List A) → map f (xs ++ ys) ≡ map f xs ++ map f ys
map_joined f [] ys = refl
map_joined f (x ∷ xs) ys = ap (λ zs. f x ∷ zs) (map_joined f xs ys)

-- what a function gives of numbered rules is what it gives of all rules
pub map_rules : {B : Type 0} (f : HttpInfo → B) (call : ℕ) (ms : List BoundMethod)
    → map (λ (r : NumberedRule). f r.rule) (numbered_rules call ms) ≡ map f (all_rules ms)
map_rules f call [] = refl
map_rules f call (m ∷ ms) =
    map_numbered f call (method_rules m) (numbered_rules (call + 1) ms)
    ∙ ap (λ zs. map f (method_rules m) ++ zs) (map_rules f (call + 1) ms)
    ∙ sym (map_joined f (method_rules m) (all_rules ms))

-- a property of numbers holds of the numbered rules of one method
same_call : (P : NumberedRule → Type 0) (call : ℕ) (rs : List HttpInfo) → ((r : HttpInfo) → P (numbered call r))
    → AllByRecursion P (map (numbered call) rs)
same_call P call [] h = tt
same_call P call (r ∷ rs) h = (h r, same_call P call rs h)

-- the number of a rule is that of one of the methods
calls_from : (call : ℕ) (ms : List BoundMethod)
    → AllByRecursion (λ (r : NumberedRule). r.call < call + length ms) (numbered_rules call ms)
calls_from call [] = tt
calls_from call (m ∷ ms) =
    each_joined (λ (r : NumberedRule). r.call < call + length (m ∷ ms)) (map (numbered call) (method_rules m))
    (numbered_rules (call + 1) ms)
    (same_call (λ (r : NumberedRule). r.call < call + length (m ∷ ms)) call (method_rules m) (λ r. omega arith))
    (each_weaker (λ (r : NumberedRule). r.call < (call + 1) + length ms)
    (λ (r : NumberedRule). r.call < call + length (m ∷ ms))
    (λ r h. omega arith) (numbered_rules (call + 1) ms) (calls_from (call + 1) ms))

-- the number of each rule is below that of the methods
pub calls_below : (ms : List BoundMethod)
    → AllByRecursion (λ (r : NumberedRule). r.call < length ms) (numbered_rules 0 ms)
calls_below ms =
    each_weaker (λ (r : NumberedRule). r.call < 0 + length ms) (λ (r : NumberedRule). r.call < length ms)
    (λ r h. omega arith)
    (numbered_rules 0 ms) (calls_from 0 ms)

-- a property of the rules of a method is one of its numbered rules
numbered_each : (P : HttpInfo → Type 0) (call : ℕ) (rs : List HttpInfo) → AllByRecursion P rs
    → AllByRecursion (λ (r : NumberedRule). P r.rule) (map (numbered call) rs)
numbered_each P call [] h = tt
numbered_each P call (r ∷ rs) (p, h) = (p, numbered_each P call rs h)

-- a property of the rules of each method is one of all numbered rules
pub each_rule : (P : HttpInfo → Type 0) (call : ℕ) (ms : List BoundMethod)
    → AllByRecursion (λ m. AllByRecursion P (method_rules m)) ms
    → AllByRecursion (λ (r : NumberedRule). P r.rule) (numbered_rules call ms)
each_rule P call [] h = tt
each_rule P call (m ∷ ms) (p, h) =
    each_joined (λ (r : NumberedRule). P r.rule) (map (numbered call) (method_rules m)) (numbered_rules (call + 1) ms)
    (numbered_each P call (method_rules m) p) (each_rule P (call + 1) ms h)

-- lists that a function gives of numbered rules, joined, are those that it gives of all rules
pub join_rules : {B : Type 0} (f : HttpInfo → List B) (call : ℕ) (ms : List BoundMethod)
    → flat_map (λ (r : NumberedRule). f r.rule) (numbered_rules call ms) ≡ flat_map f (all_rules ms)
join_rules f call ms = flat_mapped (numbered_rules call ms)
    ∙ ap (λ rs. flat_map f rs) (plain ∙ map_rules (λ r. r) call ms ∙ same (all_rules ms))
  where
    flat_mapped : (rs : List NumberedRule)
        → flat_map (λ (r : NumberedRule). f r.rule) rs ≡ flat_map f (map (λ (r : NumberedRule). r.rule) rs)
    flat_mapped [] = refl
    flat_mapped (r ∷ rs) = ap (λ z. f r.rule ++ z) (flat_mapped rs)

    plain : map (λ (r : NumberedRule). r.rule) (numbered_rules call ms)
        ≡ map (λ (r : NumberedRule). r.rule) (numbered_rules call ms)
    plain = refl

    same : (rs : List HttpInfo) → map (λ r. r) rs ≡ rs
    same [] = refl
    same (r ∷ rs) = ap (λ z. r ∷ z) (same rs)
