-- What an item refers to, as a number: that of the table of forms.
use Rattle.std.specs.Prelude.{cond, ℕ, zero, suc, ◌+◌, ◌*◌, ◌/◌, ◌%◌, ◌^◌, eqb}
use Rattle.sheet.specs.Forms.{Slot, entry, line, line_or, line_unknown, word, number, day, nothing, form_of}
use Rattle.forms.specs.declared.Form as F
use Rattle.depths.specs.declared.Places.{Places}
use Rattle.forms.specs.Rows.{coded}

-- the key that an item refers to
unfoldable pub key_in : Slot → ℕ
key_in entry = 0
key_in (line k) = k
key_in (line_or b k) = k
key_in (line_unknown k) = k
key_in (word ws) = 0
key_in number = 0
key_in day = 0
key_in nothing = 0

-- four places in one word, a byte each, the first the lowest
abbrev pub packed : F.Form → ℕ
packed r = r.first + 256 * (r.second + 256 * (r.third + 256 * r.fourth))

-- those from place n on
abbrev pub packed_from : ℕ → ℕ → ℕ
packed_from n w = w / 2 ^ (n % 8 * 8)

-- what the first four places of a form refer to, those of its group after the others
unfoldable pub form_code : ℕ → ℕ
form_code t = packed (coded (form_of t))

-- the same of the group alone, which follows any number of times
unfoldable pub again_code : ℕ → ℕ
again_code t = packed_from (coded (form_of t)).items (form_code t)

-- what the places after the first refer to: the rest of the word, or the group once more
abbrev pub codes_after : ℕ → ℕ → ℕ
codes_after again w = cond (eqb (w / 256) 0) again (w / 256)

-- what the places from j on refer to, in a line of form t
unfoldable pub codes_at : ℕ → ℕ → ℕ
codes_at t zero = form_code t
codes_at t (suc j) = codes_after (again_code t) (codes_at t j)

-- the places of a line of form t from j on, what may stand at the first of them, and those after it
abbrev pub places_at : ℕ → ℕ → Places
places_at t j = record { slots = codes_at t j; group = again_code t }

abbrev pub place_code : Places → ℕ
place_code p = p.slots % 256

abbrev pub places_after : Places → Places
places_after p = record { slots = codes_after p.group p.slots; group = p.group }
