-- What is noted on a path: where the entries stand among which a text is looked up.
use Rattle.std.specs.Prelude.{◌≡◌, Bool, true, List, ℕ, get_or, set}
use Rattle.cedar.specs.Numbered.{entry_of}
use Rattle.sheet.specs.State.{entries_of}
use Rattle.words.specs.Log.{part}
use Rattle.lookup.specs.Lookups.{value_in, look_found, look_row, look_attr}
use Rattle.notes.specs.Leaps.{rising}
use Rattle.lookup.specs.declared.Look.{Look}
use Rattle.notes.specs.declared.Span.{Span}
use Rattle.notes.specs.declared.TheConstants.{NOWHERE}

-- text u among the entries from word s up to e
unfoldable pub look_part : List ℕ → ℕ → ℕ → ℕ → Look
look_part a s e u = look_found (entry_of u (entries_of (part a s e)))

-- what is looked up in f is so among the words from s up to e, and their texts ascend
pub record Stands (a : List ℕ) (s e : ℕ) (f : ℕ → Look) : Type 0 where
  pub is : (u : ℕ) → f u ≡ look_part a s e u
  pub rises : rising 0 (part a s e) ≡ true

-- where a span is known, the entries of record r stand there
pub record Spans (a : List ℕ) (r : ℕ) (s : Span) : Type 0 where
  pub is : (s.end ≡ 0 → ⊥) → Stands a s.start s.end (look_row (value_in a r))

-- where span v is known, the attributes of value v stand there
pub record Noted (c : Bool) (a : List ℕ) (spans : List Span) : Type 0 where
  pub is : (v : ℕ) → ((get_or spans v NOWHERE).end ≡ 0 → ⊥) → Stands a (get_or spans v NOWHERE).start (get_or spans v NOWHERE).end (look_attr c a v)

-- span v became where the entries of record r stand
pub record Placed (a : List ℕ) (v r : ℕ) (spans spans' : List Span) : Type 0 where
  pub span : Span
  pub put : spans' ≡ set spans v span
  pub right : Spans a r span

-- text u is looked up in value v, and what is noted holds
pub record Looked (c : Bool) (a : List ℕ) (v u : ℕ) (spans : List Span) (l : Look) : Type 0 where
  pub is : l ≡ look_attr c a v u
  pub noted : Noted c a spans
