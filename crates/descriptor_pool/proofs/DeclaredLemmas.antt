-- What a message declares, one level of it in view.
use Rattle.std.proofs.Common.{◌≡◌, ◌++◌, ℕ, List, [], ◌∷◌, map, refl, ap, ◌∙◌, append_assoc}
use Rattle.std.specs.List.{flat_map}
use Rattle.descriptors.specs.declared.file_set.EnumInfo.{EnumInfo}
use Rattle.descriptors.specs.declared.file_set.FieldInfo.{FieldInfo}
use Rattle.descriptors.specs.declared.file_set.MessageInfo.{MessageInfo, out-MessageInfo}
use Rattle.descriptors.specs.declared.file_set.MessageInfo.TheFolds.{fold_out-MessageInfo}
use Rattle.descriptor_pool.specs.DeclaredNames.{Declaration, Message, declared_in, enums_in, extensions_in, in_scope, message_of, message_step, messages_in}

through : (inner : List ℕ) (f : MessageInfo → List ℕ → List Declaration) (ms : List MessageInfo)
    → flat_map (λ (g : List ℕ → List Declaration). g inner) (map f ms) ≡ flat_map (λ m. f m inner) ms
through inner f [] = refl
through inner f (m ∷ ms) = ap (λ z. f m inner ++ z) (through inner f ms)

-- a message declares itself, then what is nested in it, then its enums, then its extensions
pub declared_is : (syntax : List ℕ) (m : MessageInfo) (scope : List ℕ)
    → declared_in syntax m scope
    ≡ Message (message_of (in_scope scope (out-MessageInfo m).name) syntax (out-MessageInfo m))
    ∷ (messages_in syntax (in_scope scope (out-MessageInfo m).name) (out-MessageInfo m).nested_type
    ++ (enums_in (in_scope scope (out-MessageInfo m).name) (out-MessageInfo m).enum_type ++ extensions_in (out-MessageInfo m).extension))
declared_is syntax m scope =
    let inner = in_scope scope (out-MessageInfo m).name in
    ap (λ f. f scope) (fold_out-MessageInfo (List ℕ → List Declaration) (message_step syntax) m)
    ∙ ap (λ z. Message (message_of inner syntax (out-MessageInfo m)) ∷ (z ++ (enums_in inner (out-MessageInfo m).enum_type ++ extensions_in (out-MessageInfo m).extension)))
    (through inner (declared_in syntax) (out-MessageInfo m).nested_type)

-- what is appended for a message, step by step, is what it declares
pub put_is : (syntax : List ℕ) (m : MessageInfo) (scope inner : List ℕ) (d : Declaration) (ns : List MessageInfo) (es : List EnumInfo) (xs : List FieldInfo) (o a b e f : List Declaration)
    → inner ≡ in_scope scope (out-MessageInfo m).name → ns ≡ (out-MessageInfo m).nested_type → es ≡ (out-MessageInfo m).enum_type → xs ≡ (out-MessageInfo m).extension
    → d ≡ Message (message_of inner syntax (out-MessageInfo m))
    → a ≡ o ++ d ∷ [] → b ≡ a ++ messages_in syntax inner ns → e ≡ b ++ enums_in inner es → f ≡ e ++ extensions_in xs
    → f ≡ o ++ declared_in syntax m scope
put_is syntax m scope inner d ns es xs o a b e f hi hn he hx hd ha hb hee hf =
    let own = declared_is syntax m scope in
    rw (hf, hee, hb, ha, hd, hx, he, hn, hi, own) (simp append_assoc)
