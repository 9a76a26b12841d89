-- A sheet too long, refused by its lines, or held by the words. Assumes nothing.
use mathlib.Core.Path.{◌≡◌, refl, sym, ◌∙◌, ap, ap₂}
use mathlib.Core.Bool.{Bool, cond}
use mathlib.Core.List.{List}
use Prim.Native.Nat.{ℕ, ◌≤◌, ◌<◌}
use native.Mathlib.Omega.{arith}
use borrow.Author.Tests.{lt-ltb, le-ltb}
use lib.ListN.{length}
use Rattle.sheet.specs.Forms.{Mode, NODE, POLICY}
use Rattle.sheet.specs.Sheet.{read}
use Rattle.sheet.specs.Content.{on_term}
use Rattle.sheet.specs.Call.{Returned, returns, refused_then, read_then, checked_then}
use Rattle.table.specs.Layout.{RUN, held, limits, limit}
use Rattle.table.proofs.Rows.{count_rows}
use Rattle.table.proofs.Held.{held_same}
use Rattle.load.specs.Result.{Read}
use Rattle.running.specs.Chosen.{Choosable, Chosen}
use Rattle.response.specs.Runs.{Holding}
use Rattle.opening.specs.Opens.{Opens}
use Rattle.opening.proofs.Choosing.{policy_rows, term_alike}

-- there are at most 64 policies, and as many that run
policies : (limit POLICY ≡ 64) × (limit RUN ≡ 64)
unfolding limit limits
policies = (refl, refl)

-- 2
pub too_long : (m : Mode) (sheet a b : List ℕ) → 16384 < length sheet → Opens m sheet 2 0 a b
too_long m sheet a b h = record {
  checked = λ r. ap (λ (t : Bool). cond t (returns 2 0 0) (read_then m sheet r)) (lt-ltb 16384 (length sheet) h);
  holds = λ z. absurd (omega arith);
}

module _ (m : Mode) (sheet : List ℕ) (short : length sheet ≤ 16384) (a b a' b' : List ℕ) (number line : ℕ) (x : Read (read m sheet) sheet a b a' b' number line) where
  is_read : (r : Returned) → checked_then m sheet r ≡ refused_then number line r
  is_read r = ap (λ (t : Bool). cond t (returns 2 0 0) (read_then m sheet r)) (le-ltb 16384 (length sheet) short) ∙ ap₂ (λ (n k : ℕ). refused_then n k r) (sym x.number_is) (sym x.line_is)

  -- 3 to 8
  pub refused : (number ≡ 0 → ⊥) → Opens m sheet number line a' b'
  refused f = record { checked = is_read; holds = λ z. absurd (f z) }

  module _ (z : number ≡ 0) where
    zero_read : (read m sheet).number ≡ 0
    zero_read = sym x.number_is ∙ z

    -- the policies that run are chosen
    pub choosable : Choosable a'
    choosable =
        let r = x.ready z in
        record {
          sound = r.sound;
          none = r.none;
          made = r.made;
          rows = policy_rows m sheet a' b' zero_read (x.state_is z);
          space = omega (arith, x.room z, short, r.sound.few POLICY (omega arith), policies.0);
        }

    module _ (a'' : List ℕ) (c : Chosen a' a'') where
      state_kept : held sheet a'' b' ≡ held sheet a' b'
      state_kept = held_same sheet a' a'' b' b' c.same refl

      holding : Holding m sheet a'' b'
      holding = record {
        accepted = zero_read;
        state = sym (state_kept ∙ x.state_is z);
        sound = c.sound;
        none = c.made;
        runs = c.runs ∙ term_alike a' sheet b' ∙ ap on_term (sym state_kept);
        fits = omega (arith, x.room z, short, c.top, (x.ready z).sound.few POLICY (omega arith), policies.0, policies.1, ap length (c.same NODE (omega arith)), count_rows a' NODE, count_rows a'' NODE);
      }

      -- accepted
      pub opened : Opens m sheet 0 0 a'' b'
      opened = record { checked = λ r. is_read r ∙ ap (λ (n : ℕ). refused_then n line r) z; holds = λ e. holding }
