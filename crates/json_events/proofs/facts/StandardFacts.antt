-- Examples of RFC 8259, computed by the definitions.
use Rattle.std.proofs.Common.{[], ◌∷◌, inl, inr, refl, lit<, lit≤}
use Rattle.std.specs.Prelude.{codes, pos, negsuc}
use Rattle.std.specs.Char.{encode_utf8}
use Rattle.json_events.specs.JsonStrings.{short_escape, unicode_escape, surrogate_escapes, IsString}
use Rattle.json_events.specs.JsonNumbers.{DenotesInteger}

-- the G clef, U+1D11E, as a surrogate pair (section 7)
g_clef : IsString (240 ∷ 157 ∷ 132 ∷ 158 ∷ []) (codes "\"\\uD834\\uDD1E\"")
unfolding encode_utf8
g_clef = record {
  inner = codes "\\uD834\\uDD1E";
  quoted = refl;
  characters = record {
    spellings = surrogate_escapes (codes "D834") (codes "DD1E") ∷ [];
    allowed = (((refl, (lit< tt, (lit< tt, (lit< tt, (lit< tt, tt))))), (refl, (lit< tt, (lit< tt, (lit< tt, (lit< tt, tt))))), refl, refl), tt);
    bytes_are = refl;
    text_is = refl;
  };
}

-- a reverse solidus, by its letter and by its code in either case (section 7)
reverse_solidus : IsString (92 ∷ 92 ∷ 92 ∷ []) (codes "\"\\\\\\u005C\\u005c\"")
unfolding encode_utf8
reverse_solidus = record {
  inner = codes "\\\\\\u005C\\u005c";
  quoted = refl;
  characters = record {
    spellings = short_escape 92 92 ∷ unicode_escape (codes "005C") ∷ unicode_escape (codes "005c") ∷ [];
    allowed = (refl, (((refl, (lit< tt, (lit< tt, (lit< tt, (lit< tt, tt))))), refl, refl), (((refl, (lit< tt, (lit< tt, (lit< tt, (lit< tt, tt))))), refl, refl), tt)));
    bytes_are = refl;
    text_is = refl;
  };
}

-- a number with each part: -1.5e+3
each_part : DenotesInteger (negsuc 1499) (codes "-1.5e+3")
each_part = record {
  number = record {
    parts = record { minus = 45 ∷ []; int = 49 ∷ []; fraction = 46 ∷ 53 ∷ []; exponent = codes "e+3" };
    text_is = refl;
    allowed = record {
      minus = inr refl;
      int = inr (lit≤ tt, (lit< tt, tt));
      fraction = (refl, (lit< tt, tt));
      exponent = (inl refl, record { sign = 43 ∷ []; digits = 51 ∷ []; text_is = refl; sign_is = inr (inr refl); digits_are = (lit< tt, tt) });
    };
  };
  magnitude = 1500;
  exact = refl;
  signed = refl;
}

-- an integer with digits behind the point and a negative exponent: 1200.0E-2
behind_the_point : DenotesInteger (pos 12) (codes "1200.0E-2")
behind_the_point = record {
  number = record {
    parts = record { minus = []; int = codes "1200"; fraction = 46 ∷ 48 ∷ []; exponent = codes "E-2" };
    text_is = refl;
    allowed = record {
      minus = inl refl;
      int = inr (lit≤ tt, (lit< tt, (lit< tt, (lit< tt, (lit< tt, tt)))));
      fraction = (refl, (lit< tt, tt));
      exponent = (inr refl, record { sign = 45 ∷ []; digits = 50 ∷ []; text_is = refl; sign_is = inr (inl refl); digits_are = (lit< tt, tt) });
    };
  };
  magnitude = 12;
  exact = refl;
  signed = refl;
}
