-- Lists whose numbers are bytes at each index, and their parts.
use Rattle.std.proofs.Common.{◌<◌, ◌++◌, ℕ, zero, suc, List, [], ◌∷◌, take, drop}
use Rattle.base.specs.Bytes.{AreBytes}
use Rattle.base.proofs.ByteLemmas.{bytes_all, each_byte, bytes_take, bytes_drop}
use Rattle.base.proofs.EachLemmas.{each_joined, each_part}

-- no numbers are bytes
pub AreBytes_none : AreBytes []
AreBytes_none = each_byte [] tt

-- a byte before bytes makes bytes
pub AreBytes_more : (b : ℕ) (bs : List ℕ) → b < 256 → AreBytes bs → AreBytes (b ∷ bs)
AreBytes_more b bs h k zero = h
AreBytes_more b bs h k (suc i) = k i

-- bytes behind bytes make bytes
pub AreBytes-append : (xs ys : List ℕ) → AreBytes xs → AreBytes ys → AreBytes (xs ++ ys)
AreBytes-append xs ys h k =
    each_byte (xs ++ ys) (each_joined (λ (b : ℕ). b < 256) xs ys (bytes_all xs h) (bytes_all ys k))

-- both parts of bytes are bytes
pub AreBytes_parts : (xs ys : List ℕ) → AreBytes (xs ++ ys) → AreBytes xs × AreBytes ys
AreBytes_parts xs ys h =
    let parts = each_part (λ (b : ℕ). b < 256) xs ys (bytes_all (xs ++ ys) h) in
    (each_byte xs parts.0, each_byte ys parts.1)

-- the first bytes are bytes
pub AreBytes-take : (n : ℕ) (bs : List ℕ) → AreBytes bs → AreBytes (take n bs)
AreBytes-take n bs h = each_byte (take n bs) (bytes_take n bs (bytes_all bs h))

-- the bytes behind the first are bytes
pub AreBytes-drop : (n : ℕ) (bs : List ℕ) → AreBytes bs → AreBytes (drop n bs)
AreBytes-drop n bs h = each_byte (drop n bs) (bytes_drop n bs (bytes_all bs h))
