-- Where the content of a frame lies.
use Rattle.std.proofs.Common.{◌≡◌, ◌<◌, ◌≤◌, ◌+◌, ◌-◌, ◌++◌, ℕ, Bool, true, false, List, [], ◌∷◌, length, take, drop, min, cond, arith, refl, sym, ap, ap₂, ◌∙◌, get_or, length-append, length-take, length-drop, append-nil, append_assoc}
use Rattle.std.proofs.lemmas.List.{take-append-drop, take_all, take_min, drop-drop, drop-append-le}
use Rattle.std.proofs.Math.ListN.{drop_of_length-le}
use Rattle.h2_frames.specs.FrameHead.{Frame}
use Rattle.h2_frames.specs.FrameContent.{is_padded, has_priority, bytes_before, padding_size, bytes_around, HasContent, content_size, content_of, content_among}
use Rattle.h2_frames.specs.FrameRuns.{with_more}
use Rattle.h2_frames.proofs.GrowthLemmas.{either, take_append}

-- the first of joined lists left out
drop_append : (n : ℕ) (xs ys : List ℕ) → drop n (xs ++ ys) ≡ drop n xs ++ drop (n - length xs) ys
drop_append n xs ys = either n (length xs)
    (λ h. let l : n ≤ length xs = omega arith in let z : 0 ≡ n - length xs = omega arith in drop-append-le n xs ys l
    ∙ ap (λ k. drop n xs ++ drop k ys) z)
    (λ h.
    let e : n ≡ length xs + (n - length xs) = omega arith in
    let le : length xs ≤ length xs = omega arith in
    let gone : drop (length xs) (xs ++ ys) ≡ ys = drop-append-le (length xs) xs ys le
    ∙ ap (λ zs. zs ++ ys) (drop_of_length-le xs {i = length xs} le) in
    let none : drop n xs ≡ [] = drop_of_length-le xs {i = n} h in
    ap (λ k. drop k (xs ++ ys)) e ∙ sym (drop-drop (n - length xs) (length xs) (xs ++ ys))
    ∙ ap (drop (n - length xs)) gone ∙ ap (λ zs. zs ++ drop (n - length xs) ys) (sym none))

-- a payload by its fields

left_joined : (ps rs cs ds : List ℕ) → ps ++ (rs ++ (cs ++ ds)) ≡ ps ++ rs ++ cs ++ ds
left_joined ps rs cs ds = sym (append_assoc ps rs (cs ++ ds)) ∙ sym (append_assoc (ps ++ rs) cs ds)

-- the parts of a list by their lengths
parts_join : (a b c : ℕ) (xs : List ℕ)
    → xs ≡ take a xs ++ take b (drop a xs) ++ take c (drop (a + b) xs) ++ drop c (drop (a + b) xs)
parts_join a b c xs =
    let third : drop b (drop a xs) ≡ take c (drop (a + b) xs) ++ drop c (drop (a + b) xs) =
    drop-drop b a xs ∙ sym (take-append-drop c (drop (a + b) xs)) in
    let second : drop a xs ≡ take b (drop a xs) ++ (take c (drop (a + b) xs) ++ drop c (drop (a + b) xs)) =
    sym (take-append-drop b (drop a xs)) ∙ ap (λ ys. take b (drop a xs) ++ ys) third in
    sym (take-append-drop a xs) ∙ ap (λ ys. take a xs ++ ys) second
    ∙ left_joined (take a xs) (take b (drop a xs)) (take c (drop (a + b) xs)) (drop c (drop (a + b) xs))

one_byte : (xs : List ℕ) → 0 < length xs → take 1 xs ≡ get_or xs 0 0 ∷ []
one_byte [] h = absurd (omega arith)
one_byte (x ∷ xs) h = refl

-- the fields of a payload into which all that is plain content fits
record Fields (p r : Bool) (size : ℕ) (payload content : List ℕ) : Type 0 where
  pub pad_length : List ℕ
  pub priority_fields : List ℕ
  pub padding : List ℕ
  pub payload_is : payload ≡ pad_length ++ priority_fields ++ content ++ padding
  pub padded : p ≡ true → pad_length ≡ length padding ∷ []
  pub not_padded : p ≡ false → (pad_length ≡ []) × (padding ≡ [])
  pub priority : r ≡ true → length priority_fields ≡ 5
  pub no_priority : r ≡ false → priority_fields ≡ []

abbrev Middle : Bool → Bool → ℕ → List ℕ → List ℕ
Middle p r size xs = take (size - ((cond p 1 0 + cond r 5 0) + cond p (get_or xs 0 0) 0))
    (drop (cond p 1 0 + cond r 5 0) xs)

rest_size : (a b c n : ℕ) (xs : List ℕ) → length xs ≡ n → (a + b) + c ≤ n
    → length (drop (n - ((a + b) + c)) (drop (a + b) xs)) ≡ c
rest_size a b c n xs e h = omega (arith, length-drop (n - ((a + b) + c)) (drop (a + b) xs), length-drop (a + b) xs)

priority_size : (a b : ℕ) (xs : List ℕ) → a + b ≤ length xs → length (take b (drop a xs)) ≡ b
priority_size a b xs h = omega (arith, length-take b (drop a xs), length-drop a xs)

fields_of : (p r : Bool) (size : ℕ) (xs : List ℕ) → length xs ≡ size
    → (cond p 1 0 + cond r 5 0) + cond p (get_or xs 0 0) 0 ≤ size → Fields p r size xs (Middle p r size xs)
fields_of p r size xs e h =
    record {
      pad_length = take (cond p 1 0) xs;
      priority_fields = take (cond r 5 0) (drop (cond p 1 0) xs);
      padding = drop (size - ((cond p 1 0 + cond r 5 0) + cond p (get_or xs 0 0) 0))
          (drop (cond p 1 0 + cond r 5 0) xs);
      payload_is = parts_join (cond p 1 0) (cond r 5 0)
          (size - ((cond p 1 0 + cond r 5 0) + cond p (get_or xs 0 0) 0)) xs;
      padded = λ t. has_pad p r size xs e h t;
      not_padded = λ f. no_pad p r size xs e h f;
      priority = λ t. five p r xs (enough p r size xs e h) t;
      no_priority = λ f. ap (λ (b : Bool). take (cond b 5 0) (drop (cond p 1 0) xs)) f;
    }
  where
    enough : (p r : Bool) (size : ℕ) (xs : List ℕ) → length xs ≡ size
        → (cond p 1 0 + cond r 5 0) + cond p (get_or xs 0 0) 0 ≤ size → cond p 1 0 + cond r 5 0 ≤ length xs
    enough p r size xs e h = omega (arith, e, h)

    five : (p r : Bool) (xs : List ℕ) → cond p 1 0 + cond r 5 0 ≤ length xs → r ≡ true
        → length (take (cond r 5 0) (drop (cond p 1 0) xs)) ≡ 5
    five p true xs h t = priority_size (cond p 1 0) 5 xs h
    five p false xs h t = absurd (cc)

    has_pad : (p r : Bool) (size : ℕ) (xs : List ℕ) → length xs ≡ size
        → (cond p 1 0 + cond r 5 0) + cond p (get_or xs 0 0) 0 ≤ size → p ≡ true
        → take (cond p 1 0) xs ≡ length
        (drop (size - ((cond p 1 0 + cond r 5 0) + cond p (get_or xs 0 0) 0)) (drop (cond p 1 0 + cond r 5 0) xs))
        ∷ []
    has_pad true r size xs e h t =
        let some : 0 < length xs = omega (arith, e, h) in
        one_byte xs some ∙ ap (λ n. n ∷ []) (sym (rest_size 1 (cond r 5 0) (get_or xs 0 0) size xs e h))
    has_pad false r size xs e h t = absurd (cc)

    no_pad : (p r : Bool) (size : ℕ) (xs : List ℕ) → length xs ≡ size
        → (cond p 1 0 + cond r 5 0) + cond p (get_or xs 0 0) 0 ≤ size → p ≡ false
        → (take (cond p 1 0) xs ≡ []) ×
        (drop (size - ((cond p 1 0 + cond r 5 0) + cond p (get_or xs 0 0) 0)) (drop (cond p 1 0 + cond r 5 0) xs)
        ≡ [])
    no_pad true r size xs e h f = absurd (cc)
    no_pad false r size xs e h f = (
      refl,
      drop_of_length-le (drop (0 + cond r 5 0) xs)
          {i = size - ((0 + cond r 5 0) + 0)} (omega (arith, length-drop (0 + cond r 5 0) xs, e)),
    )

-- the content lies where the standard says
pub content_lies : (f : Frame) → length f.payload ≡ f.size → bytes_around f ≤ f.size → HasContent f (content_of f)
content_lies f e h =
    let x = fields_of (is_padded f.kind f.flags) (has_priority f.kind f.flags) f.size f.payload e h in
    record {
      pad_length = x.pad_length;
      priority_fields = x.priority_fields;
      padding = x.padding;
      payload =
          x.payload_is;
      padded = x.padded;
      not_padded = x.not_padded;
      priority = x.priority;
      no_priority = x.no_priority;
    }

-- only that is the content

middle_of : (ps rs cs ds : List ℕ)
    → take (length (ps ++ rs ++ cs ++ ds) - ((length ps + length rs) + length ds))
    (drop (length ps + length rs) (ps ++ rs ++ cs ++ ds)) ≡ cs
middle_of ps rs cs ds =
    let whole : ps ++ rs ++ cs ++ ds ≡ (ps ++ rs) ++ (cs ++ ds) = append_assoc (ps ++ rs) cs ds in
    let n : length ps + length rs ≡ length (ps ++ rs) = sym (length-append ps rs) in
    let sum : length (ps ++ rs ++ cs ++ ds) ≡ length ps + length rs + length cs + length ds =
    omega (arith, length-append (ps ++ rs ++ cs) ds, length-append (ps ++ rs) cs, length-append ps rs) in
    let all : length (ps ++ rs ++ cs ++ ds) - ((length ps + length rs) + length ds) ≡ length cs = omega (arith, sum) in
    let rest : drop (length ps + length rs) (ps ++ rs ++ cs ++ ds) ≡ cs ++ ds =
    ap₂ drop n whole ∙ behind_first (ps ++ rs) (cs ++ ds) in
    ap₂ take all rest ∙ first_of cs ds
  where
    behind_first : (xs ys : List ℕ) → drop (length xs) (xs ++ ys) ≡ ys
    behind_first xs ys =
        let le : length xs ≤ length xs = omega arith in
        let z : length xs - length xs ≡ 0 = omega arith in
        drop_append (length xs) xs ys ∙ ap₂ (λ (ps rs : List ℕ). ps ++ rs) (drop_of_length-le xs {i = length xs} le)
        (ap (λ k. drop k ys) z)

    first_of : (xs ys : List ℕ) → take (length xs) (xs ++ ys) ≡ xs
    first_of xs ys =
        let le : length xs ≤ length xs = omega arith in
        let z : length xs - length xs ≡ 0 = omega arith in
        take_append (length xs) xs ys ∙ ap₂ (λ (ps rs : List ℕ). ps ++ rs) (take_all (length xs) xs le)
        (ap (λ k. take k ys) z) ∙ append-nil xs

by_padding : (p r : Bool) (content payload ps rs ds : List ℕ) → payload ≡ ps ++ rs ++ content ++ ds
    → (p ≡ true → ps ≡ length ds ∷ []) → (p ≡ false → (ps ≡ []) × (ds ≡ [])) → (r ≡ true → length rs ≡ 5)
    → (r ≡ false → rs ≡ [])
    → content ≡ take (length payload - ((cond p 1 0 + cond r 5 0) + cond p (get_or payload 0 0) 0))
    (drop (cond p 1 0 + cond r 5 0) payload)
by_padding p r content payload ps rs ds e padded plain five none =
    let b : length rs ≡ cond r 5 0 = priority_is r rs five none in
    let a : length ps ≡ cond p 1 0 = pad_is p ps ds padded plain in
    let d : length ds ≡ cond p (get_or payload 0 0) 0 = behind_is p payload ps rs content ds e padded plain in
    sym (middle_of ps rs content ds)
    ∙ ap₂ (λ k n. take (length (ps ++ rs ++ content ++ ds) - ((k + length rs) + n))
    (drop (k + length rs) (ps ++ rs ++ content ++ ds))) a d
    ∙ ap₂ (λ k xs. take (length xs - ((cond p 1 0 + k) + cond p (get_or payload 0 0) 0)) (drop (cond p 1 0 + k) xs)) b
    (sym e)
  where
    priority_is : (r : Bool) (rs : List ℕ) → (r ≡ true → length rs ≡ 5) → (r ≡ false → rs ≡ []) → length rs
        ≡ cond r 5 0
    priority_is true rs five none = five refl
    priority_is false rs five none = ap length (none refl)

    pad_is : (p : Bool) (ps ds : List ℕ) → (p ≡ true → ps ≡ length ds ∷ []) → (p ≡ false → (ps ≡ []) × (ds ≡ []))
        → length ps ≡ cond p 1 0
    pad_is true ps ds padded plain = ap length (padded refl)
    pad_is false ps ds padded plain = ap length (plain refl).0

    behind_is : (p : Bool) (payload ps rs cs ds : List ℕ) → payload ≡ ps ++ rs ++ cs ++ ds
        → (p ≡ true → ps ≡ length ds ∷ []) → (p ≡ false → (ps ≡ []) × (ds ≡ [])) → length ds
        ≡ cond p (get_or payload 0 0) 0
    behind_is true payload ps rs cs ds e padded plain = sym (ap (λ (xs : List ℕ). get_or xs 0 0) (e
        ∙ ap (λ xs. xs ++ rs ++ cs ++ ds) (padded refl)))
    behind_is false payload ps rs cs ds e padded plain = ap length (plain refl).1

-- a payload has one content
pub content_is_one : (f : Frame) (content : List ℕ) → length f.payload ≡ f.size → HasContent f content → content
    ≡ content_of f
content_is_one f content e h =
    by_padding (is_padded f.kind f.flags) (has_priority f.kind f.flags) content f.payload h.pad_length
    h.priority_fields h.padding h.payload h.padded h.not_padded h.priority h.no_priority
    ∙ ap (λ n. take (n - bytes_around f) (drop (bytes_before f.kind f.flags) f.payload)) e

-- content that comes in pieces

none_first : (b n m : ℕ) (xs : List ℕ) → xs ≡ [] → take n (drop b xs) ≡ take m (drop b xs)
none_first b n m xs e =
    let l : length xs ≤ 0 = omega (arith, ap length e) in
    let p : length (drop b xs) ≤ n = omega (arith, length-drop b xs) in
    let q : length (drop b xs) ≤ m = omega (arith, length-drop b xs) in
    take_all n (drop b xs) p ∙ sym (take_all m (drop b xs) q)

among : (before size : ℕ) (xs ys : List ℕ) → take size (drop before (xs ++ ys))
    ≡ take size (drop before xs) ++ content_among before size (length xs) ys
among before size xs ys =
    let n : size - length (drop before xs)
    ≡ size - (length xs - before) = ap (λ k. size - k) (length-drop before xs) in
    ap (take size) (drop_append before xs ys) ∙ take_append size (drop before xs) (drop (before - length xs) ys)
    ∙ ap (λ k. take size (drop before xs) ++ take k (drop (before - length xs) ys)) n

-- behind the last of so many bytes there are none
dropped_same : (m n from : ℕ) (bytes : List ℕ) → length bytes ≡ n → from ≡ min m n → drop from bytes ≡ drop m bytes
dropped_same m n from bytes l f = either m n
    (λ less. let e : from ≡ m = omega arith in ap (λ j. drop j bytes) e)
    (λ all.
    let p : length bytes ≤ from = omega arith in
    let q : length bytes ≤ m = omega arith in
    drop_of_length-le bytes {i = from} p ∙ sym (drop_of_length-le bytes {i = m} q))

-- a range of so many bytes: at most so many of them, behind so many
pub range_is : (m k n from to : ℕ) (bytes : List ℕ) → length bytes ≡ n → from ≡ min m n
    → to ≡ from + min k (n - from) → take (to - from) (drop from bytes) ≡ take k (drop m bytes)
range_is m k n from to bytes l f t =
    let len : length (drop from bytes) ≡ n - from = omega (arith, length-drop from bytes) in
    let count : to - from ≡ min k (length (drop from bytes)) = omega (arith, len) in
    ap (λ j. take j (drop from bytes)) count ∙ take_min k (drop from bytes)
    ∙ ap (take k) (dropped_same m n from bytes l f)

-- each piece of a payload adds its content
pub content_grows : (f : Frame) (bytes : List ℕ) → content_of (with_more bytes f)
    ≡ content_of f ++ content_among (bytes_before f.kind f.flags) (content_size (with_more bytes f))
    (length f.payload) bytes
content_grows f bytes =
    among (bytes_before f.kind f.flags) (content_size (with_more bytes f)) f.payload bytes
    ∙ ap (λ xs. xs ++ content_among (bytes_before f.kind f.flags) (content_size (with_more bytes f))
    (length f.payload) bytes) (so_far f.payload)
  where
    so_far : (xs : List ℕ) → take (f.size -
        (bytes_before f.kind f.flags + padding_size f.kind f.flags (get_or (xs ++ bytes) 0 0)))
        (drop (bytes_before f.kind f.flags) xs)
        ≡ take (f.size - (bytes_before f.kind f.flags + padding_size f.kind f.flags (get_or xs 0 0)))
        (drop (bytes_before f.kind f.flags) xs)
    so_far [] = none_first (bytes_before f.kind f.flags) _ _ [] refl
    so_far (x ∷ xs) = refl
