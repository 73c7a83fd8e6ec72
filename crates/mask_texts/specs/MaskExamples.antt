-- Worked texts of field masks (field_mask.proto, JSON Encoding of Field Masks), and what they mean.
use Rattle.std.specs.Prelude.{◌≡◌, [], ◌∷◌, codes, Some, None}
use Rattle.mask_texts.specs.MaskTexts.{mask_reading, mask_text}

-- texts, and the paths that they mean
pub record ReadMasksHold : Type 0 where
  pub two : mask_reading (codes "user.displayName,photo")
      ≡ Some (codes "user.display_name" ∷ codes "photo" ∷ [])
  pub none : mask_reading [] ≡ Some []
  pub all : mask_reading (codes "*") ≡ Some (codes "*" ∷ [])
  pub digits : mask_reading (codes "a1B2,3") ≡ Some (codes "a1_b2" ∷ codes "3" ∷ [])
  pub upper_case : mask_reading (codes "XYz,aZ") ≡ Some (codes "_x_yz" ∷ codes "a_z" ∷ [])
  pub points : mask_reading (codes "..a.*") ≡ Some (codes "..a.*" ∷ [])
  pub one_path_twice : mask_reading (codes "a,a") ≡ Some (codes "a" ∷ codes "a" ∷ [])

-- texts that mean no paths: with an empty path, or with a byte that no path of a text has
pub record BadMasksHold : Type 0 where
  pub comma : mask_reading (codes ",") ≡ None
  pub comma_in_front : mask_reading (codes ",a") ≡ None
  pub comma_behind : mask_reading (codes "a,") ≡ None
  pub two_commas : mask_reading (codes "a,,b") ≡ None
  pub underscore : mask_reading (codes "user.display_name") ≡ None
  pub space : mask_reading (codes "a, b") ≡ None
  pub brackets : mask_reading (codes "a[0]") ≡ None
  pub not_ascii : mask_reading (195 ∷ 169 ∷ []) ≡ None

-- texts that are written
pub record WrittenMasksHold : Type 0 where
  pub two : mask_text (codes "user.display_name" ∷ codes "photo" ∷ []) ≡ Some (codes "user.displayName,photo")
  pub none : mask_text [] ≡ Some []
  pub all : mask_text (codes "*" ∷ []) ≡ Some (codes "*")
  pub digits : mask_text (codes "a1_b2" ∷ codes "3" ∷ []) ≡ Some (codes "a1B2,3")
  pub underscore_in_front : mask_text (codes "_x_yz" ∷ []) ≡ Some (codes "XYz")

-- paths that have no text
pub record UnprintableMasksHold : Type 0 where
  pub empty : mask_text ([] ∷ []) ≡ None
  pub upper_case : mask_text (codes "displayName" ∷ []) ≡ None
  pub two_underscores : mask_text (codes "a__b" ∷ []) ≡ None
  pub underscore_behind : mask_text (codes "a_" ∷ []) ≡ None
  pub digit : mask_text (codes "a_1" ∷ []) ≡ None
  pub point : mask_text (codes "a_.b" ∷ []) ≡ None
  pub upper_case_letter : mask_text (codes "a_B" ∷ []) ≡ None
  pub comma : mask_text (codes "a,b" ∷ []) ≡ None
  pub space : mask_text (codes "a b" ∷ []) ≡ None
  pub not_ascii : mask_text ((195 ∷ 169 ∷ []) ∷ []) ≡ None
  pub one_of_two : mask_text (codes "a" ∷ codes "b_" ∷ []) ≡ None
