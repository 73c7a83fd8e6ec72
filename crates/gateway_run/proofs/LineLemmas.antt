-- Bytes that are written one after another.
use Rattle.std.proofs.Common.{◌≡◌, ◌≤◌, ◌+◌, ◌==◌, ◌++◌, ℕ, false, List, [], ◌∷◌, length, take, Option, Some, None, sym, ap, ◌∙◌, subst, arith, append-nil, append_assoc, length-append, Bor, Result, Ok, Err, OnErr}
use Rattle.std.specs.List.{flat_map}
use Rattle.std.specs.Prelude.{codes, decimal}
use Rattle.gateway_run.specs.DescriptorLines.{descriptor_line}
use Rattle.gateway_run.specs.declared.descriptor_fault.DescriptorFault.TheVariants.{NotUtf8, Unlinked, Wire}
use Rattle.set_faults.specs.LinkFaults.{kind_text}
use Rattle.set_faults.specs.declared.fault.LinkKind.{LinkKind}
use Rattle.wire_records.specs.WireKindNames.{wire_kind_name}
use Rattle.wire_records.specs.declared.fault.WireFault.{WireFault}
use Rattle.std.proofs.Math.Seq.{take-append-add}
use Rattle.std.proofs.lemmas.List.{take-append-le}
use Rattle.gate_world.specs.Causes.{Rose}
use Rattle.gate_world.specs.Refusals.{detail_text, value_fault_text}
use Rattle.gate_world.specs.Sinks.{Gains, GainsPart}
use Rattle.gate_world.specs.declared.refusal.Detail.{Detail}
use Rattle.gateway_run.specs.RefusalLines.{refusal_line}
use Rattle.transcoding.specs.RequestRefusals.{cause_of, refusal_detail, refusal_status, text_of}
use Rattle.transcoding.specs.declared.refusal.RequestRefusal.{RequestRefusal}
use Rattle.std.specs.Option.{option_map_or}

-- one after another, both are gained
pub gains_both : (a b c : Option (List ℕ)) (xs ys : List ℕ) → Gains a b xs → Gains b c ys → Gains a c (xs ++ ys)
gains_both None b c xs ys g h = tt
gains_both (Some old) b c xs ys g h = let k : Gains (Some (old ++ xs)) c ys = subst (λ z. Gains z c ys) g h in k ∙ ap Some (append_assoc old xs ys)

-- a part of the first is one of both
pub part_first : (a b : Option (List ℕ)) (xs ys : List ℕ) → GainsPart a b xs → GainsPart a b (xs ++ ys)
part_first a b xs ys p =
    let within = p.1 in
    (p.0, omega (arith, length-append xs ys, within), subst (Gains a b) (sym (take-append-le p.0 xs ys (omega (arith, within)))) p.2)

-- the first, and a part of what stands behind it
pub part_both : (a b c : Option (List ℕ)) (xs ys : List ℕ) → Gains a b xs → GainsPart b c ys → GainsPart a c (xs ++ ys)
part_both a b c xs ys g p =
    let within = p.1 in
    (length xs + p.0, omega (arith, length-append xs ys, within), subst (Gains a c) (sym (take-append-add xs ys p.0)) (gains_both a b c xs (take p.0 ys) g p.2))

-- a count that rose later rose
pub rose_later : (a b c : ℕ) → a ≤ b → Rose b c → Rose a c
rose_later a b c h r = grind (arith, h, r)

-- texts of which the first was written, and of the rest a part
pub part_on_err : {U E : Type 0} (r : Result U E) (a b c : Option (List ℕ)) (xs : List ℕ) (t : Bor (List ℕ)) (ts all : List (Bor (List ℕ))) → all ≡ t ∷ ts → xs ≡ t.now → Gains a b xs
    → OnErr r (GainsPart b c (flat_map (λ (u : Bor (List ℕ)). u.now) ts)) → OnErr r (GainsPart a c (flat_map (λ (u : Bor (List ℕ)). u.now) all))
part_on_err (Ok u) a b c xs t ts all e x g p = tt
part_on_err (Err w) a b c xs t ts all e x g p =
    subst (λ z. GainsPart a c (flat_map (λ (u : Bor (List ℕ)). u.now) z)) (sym e)
    (part_both a b c t.now (flat_map (λ (u : Bor (List ℕ)). u.now) ts) (subst (Gains a b) x g) p)

-- ---- the line of a set, by the texts that are written

-- of a text that is not UTF-8, by its digits
pub not_utf8_line : (place : ℕ) (digits : List ℕ) → digits ≡ decimal place
    → descriptor_line (NotUtf8 place) ≡ codes "descriptors: NotUtf8 at " ++ (digits ++ codes "\n")
not_utf8_line place digits d = ap (λ z. codes "descriptors: NotUtf8 at " ++ (z ++ codes "\n")) (sym d)

-- of a wrong record, by its digits and the name of its kind
pub wire_line : (w : WireFault) (digits kind : List ℕ) → digits ≡ decimal w.place → kind ≡ wire_kind_name w.kind
    → descriptor_line (Wire w) ≡ codes "descriptors: Wire at " ++ (digits ++ (codes " " ++ (kind ++ codes "\n")))
wire_line w digits kind d k =
    rw (d, k) (ap (λ z. codes "descriptors: Wire at " ++ z) (append_assoc (decimal w.place) (codes " " ++ wire_kind_name w.kind) (codes "\n")))

-- the line of a fault with two names, by the texts that are written
pub two_names_line : (kind : LinkKind) (name second : List ℕ) (k n s : List ℕ) → (length second == 0) ≡ false → k ≡ kind_text kind → n ≡ name → s ≡ second
    → descriptor_line (Unlinked kind name second) ≡ codes "descriptors: " ++ (k ++ (codes " " ++ (n ++ (codes " " ++ (s ++ codes "\n")))))
two_names_line kind name [] k n s c ek en es = absurd (cc (c))
two_names_line kind name (d ∷ ds) k n s c ek en es =
    rw (ek, en, es)
    (ap (λ z. codes "descriptors: " ++ z) (append_assoc (kind_text kind) (codes " " ++ (name ++ (codes " " ++ (d ∷ ds)))) (codes "\n")
    ∙ ap (λ z. kind_text kind ++ (codes " " ++ z)) (append_assoc name (codes " " ++ (d ∷ ds)) (codes "\n"))))

-- ---- the line of a refusal, by the texts that are written

-- of one that names no value
pub plain_line : (r : RequestRefusal) (status cause : List ℕ) → refusal_detail r ≡ None
    → status ≡ decimal (refusal_status r) → cause ≡ cause_of r
    → refusal_line r ≡ codes "refused " ++ (status ++ (codes " " ++ (cause ++ codes "\n")))
plain_line r status cause e es ec =
    let text : text_of r ++ codes "\n" ≡ cause_of r ++ codes "\n" =
    ap (λ z. (cause_of r ++ option_map_or detail_text z []) ++ codes "\n") e ∙ ap (λ z. z ++ codes "\n") (append-nil (cause_of r)) in
    rw (es, ec) (ap (λ z. codes "refused " ++ (decimal (refusal_status r) ++ (codes " " ++ z))) text)

-- of one that names a value
pub detail_line : (r : RequestRefusal) (d : Detail) (status cause number fault : List ℕ) → refusal_detail r ≡ Some d
    → status ≡ decimal (refusal_status r) → cause ≡ cause_of r → number ≡ decimal d.at → fault ≡ value_fault_text d.fault
    → refusal_line r ≡ codes "refused " ++ (status ++ (codes " " ++ (cause ++ (number ++ (codes ": " ++ (fault ++ codes "\n"))))))
detail_line r d status cause number fault e es ec en ef =
    let text : text_of r ++ codes "\n" ≡ cause_of r ++ (decimal d.at ++ (codes ": " ++ (value_fault_text d.fault ++ codes "\n"))) =
    ap (λ z. (cause_of r ++ option_map_or detail_text z []) ++ codes "\n") e
    ∙ append_assoc (cause_of r) (detail_text d) (codes "\n")
    ∙ ap (λ z. cause_of r ++ z) (append_assoc (decimal d.at) (codes ": " ++ value_fault_text d.fault) (codes "\n")) in
    rw (es, ec, en, ef) (ap (λ z. codes "refused " ++ (decimal (refusal_status r) ++ (codes " " ++ z))) text)

-- ---- the lines of messages

-- a line that was put goes on with those of the rest
pub one_more_line : (line : List ℕ → List ℕ) (ms rest : List (List ℕ)) (m all out new : List ℕ) → ms ≡ m ∷ rest
    → new ≡ out ++ line m → out ++ flat_map line ms ≡ all → new ++ flat_map line rest ≡ all
one_more_line line ms rest m all out new e n h =
    ap (λ z. z ++ flat_map line rest) n ∙ append_assoc out (line m) (flat_map line rest)
    ∙ ap (λ z. out ++ flat_map line z) (sym e) ∙ h
