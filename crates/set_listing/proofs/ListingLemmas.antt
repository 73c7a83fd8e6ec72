-- The lines of the bindings of a linked API: there is one text of them.
use Rattle.std.proofs.Common.{◌≡◌, ◌++◌, ℕ, List, [], ◌∷◌, Option, Some, None, IfSome, IsSome, refl, sym, ap, ◌∙◌, subst, append_assoc, append-nil}
use Rattle.std.specs.List.{AllByRecursion}
use Rattle.set_listing.specs.RouteLines.{AreRouteLines, IsBodyText, IsFieldName, IsResponseText, IsRouteLine, IsRoutesText, route_words}
use Rattle.http_rules.specs.Template.{joined}
use Rattle.http_rules.specs.TemplateText.{template_text}
use Rattle.http_rules.specs.declared.template.Binding.{Binding}
use Rattle.http_rules.specs.declared.template.Body.{Body}
use Rattle.http_rules.specs.declared.template.Body.TheVariants.{Nothing, Whole, Part}
use Rattle.linked_api.specs.LinkedApi.{IsBindingOf, IsBodyOf, IsLinked}
use Rattle.linked_api.specs.declared.api.Api.{Api}
use Rattle.linked_api.specs.declared.api.MethodInfo.{MethodInfo}
use Rattle.message_types.specs.Types.{field_in, fields_of}
use Rattle.message_types.specs.declared.fields.Field.{Field}
use Rattle.std.specs.Prelude.{codes}

-- ---- the words of a line

-- words that were appended one after another, each but the last with a space, and a line feed
pub words_appended : (b : Binding) (m : MethodInfo) (body response : List ℕ) (old o p q r s t u : List ℕ)
    → o ≡ old ++ (b.method ++ 32 ∷ []) → p ≡ o ++ template_text b.template → q ≡ p ++ 32 ∷ []
    → r ≡ q ++ (m.path ++ 32 ∷ []) → s ≡ r ++ (body ++ 32 ∷ []) → t ≡ s ++ response → u ≡ t ++ 10 ∷ []
    → u ≡ old ++ (joined 32 (route_words b m body response) ++ codes "\n")
words_appended b m body response old o p q r s t u eo ep eq er es et eu =
    rw (eu, et, es, er, eq, ep, eo)
    (ap (λ z. (front ++ z) ++ 10 ∷ []) (sym (append-nil response))
    ∙ in_order old b.method (template_text b.template) m.path body (response ++ []) (32 ∷ []) (10 ∷ []))
  where
    start : List ℕ
    start = ((old ++ (b.method ++ 32 ∷ [])) ++ template_text b.template) ++ 32 ∷ []

    front : List ℕ
    front = (start ++ (m.path ++ 32 ∷ [])) ++ (body ++ 32 ∷ [])

    in_order : (old k t p b r s n : List ℕ)
        → ((((((old ++ (k ++ s)) ++ t) ++ s) ++ (p ++ s)) ++ (b ++ s)) ++ r) ++ n
        ≡ old ++ ((k ++ (s ++ (t ++ (s ++ (p ++ (s ++ (b ++ (s ++ r)))))))) ++ n)
    in_order old k t p b r s n = simp append_assoc

-- ---- one more line

-- what the lines of the bindings that are left give behind those that were written, the rest gives behind one more
pub one_more_line : (api : Api) (bs : List Binding) (b : Binding) (rest : List Binding) (out new line : List ℕ)
    → bs ≡ b ∷ rest → IsRouteLine api b line → new ≡ out ++ line
    → ((more : List ℕ) → AreRouteLines api bs more → IsRoutesText api (out ++ more)) → (more : List ℕ)
    → AreRouteLines api rest more → IsRoutesText api (new ++ more)
one_more_line api bs b rest out new line e l n all more h =
    let lines : AreRouteLines api bs (line ++ more) =
    subst (λ z. AreRouteLines api z (line ++ more)) (sym e) (line, more, l, h, refl) in
    subst (IsRoutesText api) (sym (ap (λ z. z ++ more) n ∙ append_assoc out line more)) (all (line ++ more) lines)

-- ---- one text

-- one value is found
some_same : {A : Type 0} (o : Option A) (x y : A) → o ≡ Some x → o ≡ Some y → x ≡ y
some_same o x y e f = cc (sym e ∙ f)

one_name : (fs : List Field) (n : ℕ) (x y : List ℕ) → IsFieldName fs n x → IsFieldName fs n y → x ≡ y
one_name fs n x y a b =
    a.named ∙ ap (λ (f : Field). f.name) (some_same (field_in fs n) a.field b.field a.field_is b.field_is) ∙ sym b.named

one_body : (fs : List Field) (body : Body) (x y : List ℕ) → IsBodyText fs body x → IsBodyText fs body y → x ≡ y
one_body fs Nothing x y a b = a ∙ sym b
one_body fs Whole x y a b = a ∙ sym b
one_body fs (Part n) x y a b = one_name fs n x y a b

one_response : (fs : List Field) (response : Option ℕ) (x y : List ℕ) → IsResponseText fs response x
    → IsResponseText fs response y → x ≡ y
one_response fs None x y a b = a ∙ sym b
one_response fs (Some n) x y a b = one_name fs n x y a b

-- a binding has one line
one_line : (api : Api) (b : Binding) (x y : List ℕ) → IsRouteLine api b x → IsRouteLine api b y → x ≡ y
one_line api b x y l r =
    let m = some_same _ l.method r.method l.method_is r.method_is in
    let body = one_body (fields_of api.types r.method.input) b.body l.body r.body
    (subst (λ (z : MethodInfo). IsBodyText (fields_of api.types z.input) b.body l.body) m l.body_is) r.body_is in
    let response = one_response (fields_of api.types r.method.output) b.response l.response r.response
    (subst (λ (z : MethodInfo). IsResponseText (fields_of api.types z.output) b.response l.response) m l.response_is)
    r.response_is in
    l.written
    ∙ ap (λ z. joined 32 (route_words b z l.body l.response) ++ codes "\n") m
    ∙ ap (λ z. joined 32 (route_words b r.method z l.response) ++ codes "\n") body
    ∙ ap (λ z. joined 32 (route_words b r.method r.body z) ++ codes "\n") response
    ∙ sym r.written

-- bindings have one text
one_text : (api : Api) (bs : List Binding) (x y : List ℕ) → AreRouteLines api bs x → AreRouteLines api bs y → x ≡ y
one_text api [] x y a b = a ∙ sym b
one_text api (c ∷ cs) x y a b =
    a.4
    ∙ ap (λ z. z ++ a.1) (one_line api c a.0 b.0 a.2 b.2)
    ∙ ap (λ z. b.0 ++ z) (one_text api cs a.1 b.1 a.3 b.3)
    ∙ sym b.4

-- an API has one text of its routes
pub one_routes_text : (api : Api) (a b : List ℕ) → IsRoutesText api a → IsRoutesText api b → a ≡ b
one_routes_text api a b h k = one_text api api.bindings a b h k

-- ---- a text is there

-- the name of a field that is there
some_name : (fs : List Field) (n : ℕ) → IsSome (field_in fs n) → (text : List ℕ) × IsFieldName fs n text
some_name fs n h = pick (field_in fs n) refl h
  where
    pick : (o : Option Field) → field_in fs n ≡ o → IsSome o → (text : List ℕ) × IsFieldName fs n text
    pick None e s = absurd (cc (s))
    pick (Some f) e s = (f.name, record { field = f; field_is = e; named = refl })

some_body : (fs : List Field) (body : Body) → IsBodyOf fs body → (text : List ℕ) × IsBodyText fs body text
some_body fs Nothing h = (codes "-", refl)
some_body fs Whole h = (codes "*", refl)
some_body fs (Part n) h = some_name fs n h

some_response : (fs : List Field) (response : Option ℕ) → IfSome response (λ n. IsSome (field_in fs n))
    → (text : List ℕ) × IsResponseText fs response text
some_response fs None h = (codes "-", refl)
some_response fs (Some n) h = some_name fs n h

-- a binding of an API has a line
some_line : (api : Api) (b : Binding) → IsBindingOf api b → (line : List ℕ) × IsRouteLine api b line
some_line api b h =
    let body = some_body (fields_of api.types h.method.input) b.body h.body in
    let response = some_response (fields_of api.types h.method.output) b.response h.response in (
      joined 32 (route_words b h.method body.0 response.0) ++ codes "\n",
      record {
        method = h.method;
        method_is = h.method_is;
        body = body.0;
        body_is = body.1;
        response = response.0;
        response_is = response.1;
        written = refl;
      },
    )

-- bindings of an API have a text
some_text : (api : Api) (bs : List Binding) → AllByRecursion (IsBindingOf api) bs
    → (text : List ℕ) × AreRouteLines api bs text
some_text api [] h = ([], refl)
some_text api (b ∷ bs) h =
    let line = some_line api b h.0 in
    let more = some_text api bs h.1 in
    (line.0 ++ more.0, (line.0, more.0, line.1, more.1, refl))

-- a linked API has a text of its routes
pub some_routes_text : (api : Api) → IsLinked api → (text : List ℕ) × IsRoutesText api text
some_routes_text api l = some_text api api.bindings l.bindings
