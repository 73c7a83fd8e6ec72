-- The places join the trees: marks lead from the start to the end exactly where they are those of a tree.
use Rattle.std.proofs.Common.{◌≡◌, ℕ, List, [], ◌∷◌, Option, Some, None, refl, sym, ap, ◌∙◌, subst}
use Rattle.json_events.specs.declared.state.Bracket.{Bracket}
use Rattle.json_events.specs.declared.state.Bracket.TheVariants.{Array, Object}
use Rattle.json_events.specs.declared.state.Want.{Want}
use Rattle.json_events.specs.declared.state.Want.TheVariants as want
use Rattle.json_events.specs.JsonTree.{Json, Items, Pairs, literal, number, string, array, object, no_items, item, no_pairs, pair, Mark, opens, closes, comma, colon, key, text, digits, name, with_value, with_items, with_more_items, with_pairs, with_more_pairs}
use Rattle.json_events.specs.NestingSteps.{Place, kind_of, at, next_in, Leads}

-- what is left after a value within these brackets
abbrev pub Rest : List Bracket → List Mark → Type 0
Rest [] ms = ms ≡ []
Rest (Array ∷ st) ms = (js : Items) × (rest : List Mark) × (ms ≡ with_more_items js rest) × Rest st rest
Rest (Object ∷ st) ms = (ps : Pairs) × (rest : List Mark) × (ms ≡ with_more_pairs ps rest) × Rest st rest

-- what is left at each place
abbrev pub Left : Want → List Bracket → List Mark → Type 0
Left want.Value st ms = (j : Json) × (rest : List Mark) × (ms ≡ with_value j rest) × Rest st rest
Left want.FirstItem st ms = (js : Items) × (rest : List Mark) × (ms ≡ with_items js rest) × Rest st rest
Left want.FirstKey st ms = (ps : Pairs) × (rest : List Mark) × (ms ≡ with_pairs ps rest) × Rest st rest
Left want.Key st ms = (k : List ℕ) × (j : Json) × (ps : Pairs) × (rest : List Mark) × (ms ≡ key k ∷ colon ∷ with_value j (with_more_pairs ps rest)) × Rest st rest
Left want.Colon st ms = (j : Json) × (ps : Pairs) × (rest : List Mark) × (ms ≡ colon ∷ with_value j (with_more_pairs ps rest)) × Rest st rest
Left want.After st ms = Rest st ms

-- what may be left, where there is a place
abbrev pub LeftAt : Option Place → List Mark → Type 0
LeftAt None ms = ⊥
LeftAt (Some p) ms = Left p.want p.around ms

-- a value, and what is left of the array
first_of_value : (st : List Bracket) (ms : List Mark) → Left want.Value (Array ∷ st) ms → Left want.FirstItem st ms
first_of_value st ms h = (item h.0 h.3.0, h.3.1, h.2 ∙ ap (with_value h.0) h.3.2, h.3.3)

first_of_key : (st : List Bracket) (ms : List Mark) → Left want.Key st ms → Left want.FirstKey st ms
first_of_key st ms h = (pair h.0 h.1 h.2, h.3, h.4, h.5)

back_value : (st : List Bracket) (m : Mark) (ms : List Mark) → LeftAt (next_in want.Value st (kind_of m)) ms → Left want.Value st (m ∷ ms)
back_value st (opens Array) ms h = (array h.0, h.1, ap (λ l. opens Array ∷ l) h.2, h.3)
back_value st (opens Object) ms h = (object h.0, h.1, ap (λ l. opens Object ∷ l) h.2, h.3)
back_value st (closes b) ms h = absurd h
back_value st comma ms h = absurd h
back_value st colon ms h = absurd h
back_value st (key k) ms h = absurd h
back_value st (text s) ms h = (string s, ms, refl, h)
back_value st (digits s) ms h = (number s, ms, refl, h)
back_value st (name n) ms h = (literal n, ms, refl, h)

back_key : (st : List Bracket) (m : Mark) (ms : List Mark) → LeftAt (next_in want.Key st (kind_of m)) ms → Left want.Key st (m ∷ ms)
back_key st (opens b) ms h = absurd h
back_key st (closes b) ms h = absurd h
back_key st comma ms h = absurd h
back_key st colon ms h = absurd h
back_key st (key k) ms h = (k, h.0, h.1, h.2, ap (λ l. key k ∷ l) h.3, h.4)
back_key st (text s) ms h = absurd h
back_key st (digits s) ms h = absurd h
back_key st (name n) ms h = absurd h

-- a mark before what is left at the next place
back : (w : Want) (st : List Bracket) (m : Mark) (ms : List Mark) → LeftAt (next_in w st (kind_of m)) ms → Left w st (m ∷ ms)
back want.Value st m ms h = back_value st m ms h
back want.FirstItem st (opens b) ms h = first_of_value st _ (back_value (Array ∷ st) (opens b) ms h)
back want.FirstItem st (closes Array) ms h = (no_items, ms, refl, h)
back want.FirstItem st (closes Object) ms h = absurd h
back want.FirstItem st comma ms h = absurd h
back want.FirstItem st colon ms h = absurd h
back want.FirstItem st (key k) ms h = absurd h
back want.FirstItem st (text s) ms h = first_of_value st _ (back_value (Array ∷ st) (text s) ms h)
back want.FirstItem st (digits s) ms h = first_of_value st _ (back_value (Array ∷ st) (digits s) ms h)
back want.FirstItem st (name n) ms h = first_of_value st _ (back_value (Array ∷ st) (name n) ms h)
back want.FirstKey st (opens b) ms h = absurd h
back want.FirstKey st (closes Array) ms h = absurd h
back want.FirstKey st (closes Object) ms h = (no_pairs, ms, refl, h)
back want.FirstKey st comma ms h = absurd h
back want.FirstKey st colon ms h = absurd h
back want.FirstKey st (key k) ms h = first_of_key st _ (back_key st (key k) ms h)
back want.FirstKey st (text s) ms h = absurd h
back want.FirstKey st (digits s) ms h = absurd h
back want.FirstKey st (name n) ms h = absurd h
back want.Key st m ms h = back_key st m ms h
back want.Colon st (opens b) ms h = absurd h
back want.Colon st (closes b) ms h = absurd h
back want.Colon st comma ms h = absurd h
back want.Colon st colon ms h = (h.0, h.3.0, h.3.1, ap (λ l. colon ∷ l) (h.2 ∙ ap (with_value h.0) h.3.2), h.3.3)
back want.Colon st (key k) ms h = absurd h
back want.Colon st (text s) ms h = absurd h
back want.Colon st (digits s) ms h = absurd h
back want.Colon st (name n) ms h = absurd h
back want.After [] m ms h = absurd h
back want.After (b ∷ st) (opens c) ms h = absurd h
back want.After (Array ∷ st) (closes Array) ms h = (no_items, ms, refl, h)
back want.After (Array ∷ st) (closes Object) ms h = absurd h
back want.After (Object ∷ st) (closes Array) ms h = absurd h
back want.After (Object ∷ st) (closes Object) ms h = (no_pairs, ms, refl, h)
back want.After (Array ∷ st) comma ms h = (item h.0 h.3.0, h.3.1, ap (λ l. comma ∷ l) (h.2 ∙ ap (with_value h.0) h.3.2), h.3.3)
back want.After (Object ∷ st) comma ms h = (pair h.0 h.1 h.2, h.3, ap (λ l. comma ∷ l) h.4, h.5)
back want.After (b ∷ st) colon ms h = absurd h
back want.After (b ∷ st) (key k) ms h = absurd h
back want.After (b ∷ st) (text s) ms h = absurd h
back want.After (b ∷ st) (digits s) ms h = absurd h
back want.After (b ∷ st) (name n) ms h = absurd h

left_when_done : (w : Want) (st : List Bracket) → w ≡ want.After → st ≡ [] → Left w st []
left_when_done w st e f = subst (λ v. Left v st []) (sym e) (subst (λ t. Rest t []) (sym f) refl)

-- marks that lead to the end are what is left
pub left_of_leads : (ms : List Mark) (p : Option Place) → Leads p ms → LeftAt p ms
left_of_leads [] None h = absurd h
left_of_leads [] (Some p) h = left_when_done p.want p.around h.0 h.1
left_of_leads (m ∷ ms) None h = absurd h
left_of_leads (m ∷ ms) (Some p) h = back p.want p.around m ms (left_of_leads ms _ h)

-- a value leads on as the first item too
lead_first : (st : List Bracket) (ms : List Mark) → Leads (at want.Value (Array ∷ st)) ms → Leads (at want.FirstItem st) ms
lead_first st [] h = absurd (cc (h.0))
lead_first st (opens b ∷ ms) h = h
lead_first st (closes b ∷ ms) h = absurd h
lead_first st (comma ∷ ms) h = absurd h
lead_first st (colon ∷ ms) h = absurd h
lead_first st (key k ∷ ms) h = absurd h
lead_first st (text s ∷ ms) h = h
lead_first st (digits s ∷ ms) h = h
lead_first st (name n ∷ ms) h = h

-- the marks of a tree lead on
mutual
  value_leads : (j : Json) (st : List Bracket) (rest : List Mark) → Leads (at want.After st) rest → Leads (at want.Value st) (with_value j rest)
  value_leads (literal n) st rest h = h
  value_leads (number s) st rest h = h
  value_leads (string s) st rest h = h
  value_leads (array js) st rest h = items_lead js st rest h
  value_leads (object ps) st rest h = pairs_lead ps st rest h

  items_lead : (js : Items) (st : List Bracket) (rest : List Mark) → Leads (at want.After st) rest → Leads (at want.FirstItem st) (with_items js rest)
  items_lead no_items st rest h = h
  items_lead (item j js) st rest h = lead_first st (with_value j (with_more_items js rest)) (value_leads j (Array ∷ st) (with_more_items js rest) (more_items_lead js st rest h))

  more_items_lead : (js : Items) (st : List Bracket) (rest : List Mark) → Leads (at want.After st) rest → Leads (at want.After (Array ∷ st)) (with_more_items js rest)
  more_items_lead no_items st rest h = h
  more_items_lead (item j js) st rest h = value_leads j (Array ∷ st) (with_more_items js rest) (more_items_lead js st rest h)

  pairs_lead : (ps : Pairs) (st : List Bracket) (rest : List Mark) → Leads (at want.After st) rest → Leads (at want.FirstKey st) (with_pairs ps rest)
  pairs_lead no_pairs st rest h = h
  pairs_lead (pair k j ps) st rest h = value_leads j (Object ∷ st) (with_more_pairs ps rest) (more_pairs_lead ps st rest h)

  more_pairs_lead : (ps : Pairs) (st : List Bracket) (rest : List Mark) → Leads (at want.After st) rest → Leads (at want.After (Object ∷ st)) (with_more_pairs ps rest)
  more_pairs_lead no_pairs st rest h = h
  more_pairs_lead (pair k j ps) st rest h = value_leads j (Object ∷ st) (with_more_pairs ps rest) (more_pairs_lead ps st rest h)

-- marks lead from the start to the end exactly where they are those of a tree
pub tree_of_leads : (ms : List Mark) → Leads (at want.Value []) ms → (j : Json) × (ms ≡ with_value j [])
tree_of_leads ms h = let l = left_of_leads ms (at want.Value []) h in (l.0, l.2 ∙ ap (with_value l.0) l.3)

-- the marks of a tree lead to the end
pub leads_of_tree : (j : Json) → Leads (at want.Value []) (with_value j [])
leads_of_tree j = value_leads j [] [] (refl, refl)

-- each place leads to the end, by some marks
abbrev pub CanLead : Option Place → Type 0
CanLead p = (ms : List Mark) × Leads p ms

-- some marks close all brackets
abbrev pub can_close : (st : List Bracket) → CanLead (at want.After st)
can_close [] = ([], (refl, refl))
can_close (Array ∷ st) = let c = can_close st in (closes Array ∷ c.0, c.1)
can_close (Object ∷ st) = let c = can_close st in (closes Object ∷ c.0, c.1)

-- some marks lead from any place to the end
abbrev pub can_lead : (w : Want) (st : List Bracket) → CanLead (at w st)
can_lead want.Value st = let c = can_close st in (digits (48 ∷ []) ∷ c.0, c.1)
can_lead want.FirstItem st = let c = can_close st in (closes Array ∷ c.0, c.1)
can_lead want.FirstKey st = let c = can_close st in (closes Object ∷ c.0, c.1)
can_lead want.Key st = let c = can_close st in (key [] ∷ colon ∷ digits (48 ∷ []) ∷ closes Object ∷ c.0, c.1)
can_lead want.Colon st = let c = can_close st in (colon ∷ digits (48 ∷ []) ∷ closes Object ∷ c.0, c.1)
can_lead want.After st = can_close st
