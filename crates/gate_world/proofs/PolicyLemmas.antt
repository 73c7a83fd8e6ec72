-- What a policy picks.
use Rattle.std.proofs.Common.{◌≡◌, ◌&&◌, Bool, true, false, refl}

-- what passes only where two tests do does not pass where the first does not
pub not_picked : (picked token free : Bool) → (picked ≡ true → (token && free) ≡ true) → token ≡ false → picked ≡ false
not_picked true true free keeps no_token = absurd (cc (no_token))
not_picked true false free keeps no_token = absurd (cc (keeps refl))
not_picked false token free keeps no_token = refl
