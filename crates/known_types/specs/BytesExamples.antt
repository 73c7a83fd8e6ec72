-- Worked examples of bytes as text: those of RFC 4648, section 10, and texts that spell nothing.
use Rattle.std.specs.Prelude.{◌≡◌, ℕ, List, [], ◌∷◌, codes}
use Rattle.known_types.specs.BytesTexts.{IsBytesText, bytes_text}

-- which texts spell bytes, and which spell none
pub record BytesExamplesHold : Type 0 where
  pub none : bytes_text [] ≡ []
  pub one : bytes_text (codes "f") ≡ codes "Zg=="
  pub two : bytes_text (codes "fo") ≡ codes "Zm8="
  pub three : bytes_text (codes "foo") ≡ codes "Zm9v"
  pub four : bytes_text (codes "foob") ≡ codes "Zm9vYg=="
  pub five : bytes_text (codes "fooba") ≡ codes "Zm9vYmE="
  pub six : bytes_text (codes "foobar") ≡ codes "Zm9vYmFy"
  pub high : bytes_text (251 ∷ 255 ∷ []) ≡ codes "+/8="
  pub padded : IsBytesText (codes "Zm8=") (codes "fo")
  pub unpadded : IsBytesText (codes "Zm8") (codes "fo")
  pub for_urls : IsBytesText (codes "-_8") (251 ∷ 255 ∷ [])
  pub mixed : IsBytesText (codes "-/8=") (251 ∷ 255 ∷ [])
  pub empty : IsBytesText [] []
  -- padding that is cut short, unused bits that are not zero, a symbol alone, white space, padding behind whole groups,
  -- padding in front and in the middle
  pub half_padded : (bytes : List ℕ) → IsBytesText (codes "Zg=") bytes → ⊥
  pub unused_bits : (bytes : List ℕ) → IsBytesText (codes "Zm9=") bytes → ⊥
  pub lone : (bytes : List ℕ) → IsBytesText (codes "Z") bytes → ⊥
  pub blank : (bytes : List ℕ) → IsBytesText (codes "Zm9v\n") bytes → ⊥
  pub front : (bytes : List ℕ) → IsBytesText (codes "=Zm9") bytes → ⊥
  pub middle : (bytes : List ℕ) → IsBytesText (codes "Zg==Zg==") bytes → ⊥
  pub more : (bytes : List ℕ) → IsBytesText (codes "Zm9v====") bytes → ⊥
