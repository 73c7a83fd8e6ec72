-- The sending side of one flow-control window (RFC 9113, sections 6.9.1 and 6.9.2), as a whole
-- number of bytes.
use Rattle.std.specs.Prelude.{◌≡◌, ◌≤◌, ℕ, ℤ, pos, negsuc, ◌+ℤ◌, ◌-ℤ◌, ◌≤ℤ◌, neg_ℤ, int_lt, if◌then◌else◌, List, [], ◌∷◌}

-- the largest window that there may be: 2^31-1
abbrev pub max_window_size : ℕ
max_window_size = 2147483647

-- from -2^31 to 2^31-1
pub record IsWindowSize (size : ℤ) : Type 0 where
  pub low : negsuc 2147483647 ≤ℤ size
  pub high : size ≤ℤ pos max_window_size

-- how many bytes may be sent: the positive part
abbrev pub room_of : ℤ → ℕ
room_of (pos n) = n
room_of (negsuc n) = 0

-- a call that moves the window: an increment, a change of INITIAL_WINDOW_SIZE, bytes that are sent
pub data WindowCall : Type 0 where
  Grant : ℕ → WindowCall
  Resize : ℕ → ℕ → WindowCall
  Spend : ℕ → WindowCall

-- what the call adds to the window
abbrev pub change_of : WindowCall → ℤ
change_of (Grant n) = pos n
change_of (Resize old new) = pos new -ℤ pos old
change_of (Spend n) = neg_ℤ (pos n)

-- what the call needs
abbrev pub MayChange : ℤ → WindowCall → Type 0
MayChange size (Grant n) = Unit {0}
MayChange size (Resize old new) = (old ≤ max_window_size) × (new ≤ max_window_size)
    × (negsuc 2147483647 ≤ℤ (size +ℤ (pos new -ℤ pos old)))
MayChange size (Spend n) = n ≤ room_of size

-- what the call counts for: nothing where the sum is past the largest window
abbrev pub counted_change : ℤ → WindowCall → ℤ
counted_change size call = if int_lt (pos max_window_size) (size +ℤ change_of call) then pos 0 else change_of call

-- the window after the call
abbrev pub window_after : ℤ → WindowCall → ℤ
window_after size call = size +ℤ counted_change size call

-- the window after all of the calls
abbrev pub window_after_all : ℤ → List WindowCall → ℤ
window_after_all size [] = size
window_after_all size (call ∷ calls) = window_after_all (window_after size call) calls

-- each call has what it needs
abbrev pub MayChangeAll : ℤ → List WindowCall → Type 0
MayChangeAll size [] = Unit {0}
MayChangeAll size (call ∷ calls) = MayChange size call × MayChangeAll (window_after size call) calls

-- the sum of what the calls count for
abbrev pub changes_of : ℤ → List WindowCall → ℤ
changes_of size [] = pos 0
changes_of size (call ∷ calls) = counted_change size call +ℤ changes_of (window_after size call) calls

-- the calls' own changes, refused or not
abbrev pub sum_of_changes : List WindowCall → ℤ
sum_of_changes [] = pos 0
sum_of_changes (call ∷ calls) = change_of call +ℤ sum_of_changes calls

-- no call is refused
abbrev pub AllCount : ℤ → List WindowCall → Type 0
AllCount size [] = Unit {0}
AllCount size (call ∷ calls) = ((size +ℤ change_of call) ≤ℤ pos max_window_size) × AllCount (window_after size call) calls

-- the window is less than 2^31 bytes below the initial size, so that no other initial size moves it past the
-- lower end
abbrev pub IsInReach : ℕ → ℤ → Type 0
IsInReach initial size = pos initial ≤ℤ (size +ℤ pos max_window_size)

-- the initial size after a call
abbrev pub initial_after : ℕ → WindowCall → ℕ
initial_after initial (Grant n) = initial
initial_after initial (Resize old new) = new
initial_after initial (Spend n) = initial

-- what the call needs where the initial size is known: a change goes from that size, and no more is sent than
-- there is room
abbrev pub MayFollow : ℕ → ℤ → WindowCall → Type 0
MayFollow initial size (Grant n) = Unit {0}
MayFollow initial size (Resize old new) = (old ≡ initial) × (new ≤ max_window_size)
MayFollow initial size (Spend n) = n ≤ room_of size

-- each call has what it needs
abbrev pub MayFollowAll : ℕ → ℤ → List WindowCall → Type 0
MayFollowAll initial size [] = Unit {0}
MayFollowAll initial size (call ∷ calls) = MayFollow initial size call
    × MayFollowAll (initial_after initial call) (window_after size call) calls
