-- Worked examples of rules, computed by the definitions: of a method that changes a book of the library.
use Rattle.std.specs.Prelude.{◌≡◌, ℕ, false, List, [], ◌∷◌, codes, map, Some, None}
use Rattle.descriptors.specs.declared.file_set.HttpInfo.{HttpInfo, roll-HttpInfo}
use Rattle.http_rules.specs.declared.template.Body.TheVariants.{Part}
use Rattle.http_rules.specs.declared.template.Segment.TheVariants.{One}
use Rattle.http_rules.specs.declared.template.Template.{Template}
use Rattle.http_rules.specs.declared.template.Variable.{Variable}
use Rattle.linked_api.specs.LinkedExamples.{library, type_at}
use Rattle.linked_api.specs.declared.api.MethodInfo.{MethodInfo}
use Rattle.set_faults.specs.declared.fault.LinkFault.{LinkFault}
use Rattle.set_faults.specs.declared.fault.LinkFault.TheVariants.{At}
use Rattle.set_faults.specs.declared.fault.LinkKind.{LinkKind}
use Rattle.set_faults.specs.declared.fault.LinkKind.TheVariants.{PathField, BodyField, ResponseField}
use Rattle.linked_bindings.specs.BindingFaults.{binding_faults}
use Rattle.linked_bindings.specs.LinkedBinding.{linked_binding}

-- a method that takes a request with a book, and answers a book
abbrev pub patch_book : MethodInfo
patch_book = record {
  path = codes "/library.Library/PatchBook";
  input = type_at 1;
  output = type_at 0;
  client_streams = false;
  server_streams = false;
}

-- a method that takes and answers a book
abbrev pub put_book : MethodInfo
put_book = record patch_book { path = codes "/library.Library/PutBook"; input = type_at 0 }

-- a variable that takes the first segment
abbrev pub variable_of_path : List (List ℕ) → Variable
variable_of_path path = record { path = path; from = 0; to = 1 }

-- a template with a segment, which variables of these paths take
abbrev pub template_with : List (List (List ℕ)) → Template
template_with paths = record { segments = One ∷ []; variables = map variable_of_path paths; verb = None }

-- a rule with this body and this response
abbrev pub rule_with : List ℕ → List ℕ → HttpInfo
rule_with body response =
    roll-HttpInfo (record { pattern = None; body = body; additional_bindings = []; response_body = response })

-- the faults of a rule of the method
abbrev pub faults_with : List (List (List ℕ)) → List ℕ → List ℕ → List LinkFault
faults_with paths body response = binding_faults library patch_book (rule_with body response) (template_with paths)

-- a fault of the method
abbrev pub fault_of : LinkKind → List ℕ → LinkFault
fault_of kind name = At kind (codes "/library.Library/PatchBook") name

-- what is linked of rules, and which faults they have
pub record RuleExamplesHold : Type 0 where
  -- a field of the request is the body, a field of the answer the response
  pub linked : linked_binding library patch_book 3 (codes "PATCH") (rule_with (codes "book") (codes "title"))
      (template_with ((codes "book" ∷ codes "name" ∷ []) ∷ []))
      ≡ Some (record {
        method = codes "PATCH";
        template = template_with ((codes "book" ∷ codes "name" ∷ []) ∷ []);
        paths = (1 ∷ 1 ∷ []) ∷ [];
        body = Part 1;
        response = Some 2;
        call = 3;
      })
  pub faultless : faults_with ((codes "book" ∷ codes "name" ∷ []) ∷ []) (codes "book") (codes "title") ≡ []
  -- two paths of which none begins the other; the whole request; no body
  pub two : faults_with ((codes "book" ∷ codes "name" ∷ []) ∷ (codes "book" ∷ codes "title" ∷ []) ∷ []) (codes "*") []
      ≡ []
  pub nothing : faults_with [] [] [] ≡ []
  -- a list as the body, and a map as the response: a body and a response are fields of any kind
  pub list_and_map : binding_faults library put_book (rule_with (codes "marks") (codes "stock")) (template_with [])
      ≡ []
  pub list_and_map_linked
      : linked_binding library put_book 4 (codes "PUT") (rule_with (codes "marks") (codes "stock")) (template_with [])
      ≡ Some (record {
        method = codes "PUT";
        template = template_with [];
        paths = [];
        body = Part 4;
        response = Some 8;
        call = 4;
      })
  -- a list, a map, a message that is no well-known one, and what is behind a scalar
  pub listed : faults_with ((codes "book" ∷ codes "marks" ∷ []) ∷ []) [] []
      ≡ fault_of PathField (codes "book.marks") ∷ []
  pub mapped : faults_with ((codes "book" ∷ codes "stock" ∷ []) ∷ []) [] []
      ≡ fault_of PathField (codes "book.stock") ∷ []
  pub plain : faults_with ((codes "book" ∷ []) ∷ []) [] [] ≡ fault_of PathField (codes "book") ∷ []
  pub behind : faults_with ((codes "book" ∷ codes "made" ∷ codes "seconds" ∷ []) ∷ []) [] []
      ≡ fault_of PathField (codes "book.made.seconds") ∷ []
  -- of two equal paths each begins the other
  pub equal : faults_with ((codes "book" ∷ codes "name" ∷ []) ∷ (codes "book" ∷ codes "name" ∷ []) ∷ []) [] []
      ≡ fault_of PathField (codes "book.name") ∷ fault_of PathField (codes "book.name") ∷ []
  -- the beginning of a path is at fault, and not the path
  pub begins : faults_with ((codes "book" ∷ codes "name" ∷ []) ∷ (codes "book" ∷ []) ∷ []) [] []
      ≡ fault_of PathField (codes "book") ∷ []
  -- a body is no JSON name, no path, and no field of the answer; a response is no field of the request, and not `*`
  pub json : faults_with [] (codes "updateMask") [] ≡ fault_of BodyField (codes "updateMask") ∷ []
  pub dotted : faults_with [] (codes "book.name") [] ≡ fault_of BodyField (codes "book.name") ∷ []
  pub answered : faults_with [] (codes "title") [] ≡ fault_of BodyField (codes "title") ∷ []
  pub asked : faults_with [] [] (codes "book") ≡ fault_of ResponseField (codes "book") ∷ []
  pub whole : faults_with [] [] (codes "*") ≡ fault_of ResponseField (codes "*") ∷ []
  -- paths come before the body, and the body before the response
  pub all : faults_with ((codes "x" ∷ []) ∷ []) (codes "y") (codes "z")
      ≡ fault_of PathField (codes "x") ∷ fault_of BodyField (codes "y") ∷ fault_of ResponseField (codes "z") ∷ []
