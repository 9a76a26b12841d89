-- A row of four words stored at a log's end. Assumes nothing.
use mathlib.Core.Path.{◌≡◌, refl, sym, ◌∙◌}
use mathlib.Core.Bool.{true}
use mathlib.Core.List.{List, [], ◌∷◌}
use Prim.Native.Nat.{ℕ, ◌+◌, ◌-◌, ◌≤◌}
use native.Mathlib.Omega.{arith}
use borrow.Author.Tests.{le-leb}
use lib.ListN.{length}
use lib.Seq.{sets-eq}
use borrow.Rule.Slice.PartMut.{put_mid}
use Rattle.std.proofs.lemmas.Slice.{put_mid-paste}
use Rattle.words.specs.Log.{has_room, Room, Appended}
use Rattle.words.proofs.Logs.{append_stored, append_room}

pub row_in : (w : List ℕ) (top a b c d : ℕ) (is : List ℕ) → is ≡ a ∷ b ∷ c ∷ d ∷ [] → top ≤ 16380 → top + 4 ≤ length w
    → Appended w top (a ∷ b ∷ c ∷ d ∷ []) (put_mid top (top + 4 - top) w is) (top + 4)
unfolding has_room
row_in w top a b c d is e l h =
    append_stored w top (a ∷ b ∷ c ∷ d ∷ []) _ true (sym (rw (le-leb (top + 4) 16384 (omega arith), le-leb (top + 4) (length w) h) refl)) refl
    (put_mid-paste top (top + 4 - top) w is (a ∷ b ∷ c ∷ d ∷ []) 4 e (omega arith) refl ∙ sym (sets-eq (a ∷ b ∷ c ∷ d ∷ []) w top h))

-- there is room after a row that took the place of what stood from `start` on
pub room_after : (w w' row : List ℕ) (start top e : ℕ) → Appended w start row w' e → Room w top → start ≤ top → Room w' e
room_after w w' row start top e p room h =
    let low : Room w start = record { low = omega (arith, room.low); long = room.long } in
    append_room low p
