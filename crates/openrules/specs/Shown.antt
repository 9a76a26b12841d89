-- What the program prints for the bytes that it reads. Document 01, "Known sheets": "Program `openrules` reads standard input." With the word
-- `finish` it also reads the partial sheet from a file; after the word `preview` the command line has the number of a line and a line, after the word
-- `firm` the rows; with the word `load` it reads nothing but the two numbers after it.
use Rattle.std.specs.Prelude.{◌≡◌, cond, List, ℕ, eqb, length, take}
use Rattle.streams.specs.Filled.{IsPrefixLen}
use Rattle.sheet.specs.Forms.{partial, complete}
use Rattle.sheet.specs.Sheet.{read}
use Rattle.sheet.specs.Answer.{answer}
use Rattle.sheet.specs.Call.{Returned, room, returned}
use Rattle.finished.specs.Finish.{finished_answer, finish_returned}
use Rattle.paged.specs.Page.{page, page_returned}
use Rattle.previewed.specs.Preview.{edited, preview_returned}
use Rattle.drawn.specs.TestLoad.{load, load_returned}
use Rattle.staff.specs.Firm.{Row, firm_returned, firm_rows, firm_group}
use Rattle.wording.specs.Worded.{entry_of, refusal, quote_text}

-- the bytes of the answer buffer; the work slices have 16,384 words each
abbrev pub space : ℕ
space = 1048576

-- what a call returned, as text: the bytes of its answer, or the refusal
abbrev pub text_of : Returned → List ℕ → List ℕ
text_of r bytes = cond (eqb r.number 0) bytes (refusal r.number r.line r.length)

-- a sheet
abbrev pub back : List ℕ → Returned
back sheet = returned (entry_of sheet) room room space sheet

unfoldable pub shown : List ℕ → List ℕ
shown sheet = text_of (back sheet) (answer (entry_of sheet) (read (entry_of sheet) sheet).state)

-- a partial and a complete sheet (document 02, 2.1)
abbrev pub finish_back : List ℕ → List ℕ → Returned
finish_back p c = finish_returned room room space p c

unfoldable pub shown_finished : List ℕ → List ℕ → List ℕ
shown_finished p c = text_of (finish_back p c) (finished_answer (read partial p).state (read complete c).state)

-- the page of a partial sheet (document 02, 2.10)
abbrev pub page_back : List ℕ → Returned
page_back sheet = page_returned room room space sheet

unfoldable pub shown_page : List ℕ → List ℕ
shown_page sheet = text_of (page_back sheet) (page (read partial sheet).state)

-- a partial sheet with line n replaced (document 02, 2.11)
abbrev pub preview_back : List ℕ → ℕ → List ℕ → Returned
preview_back sheet n new = preview_returned room room space sheet n new

unfoldable pub shown_preview : List ℕ → ℕ → List ℕ → List ℕ
shown_preview sheet n new = text_of (preview_back sheet n new) (answer partial (read partial (edited sheet n new)).state)

-- a test load (document 02, 2.12)
abbrev pub load_back : ℕ → ℕ → Returned
load_back seed policies = load_returned seed policies space

unfoldable pub shown_load : ℕ → ℕ → List ℕ
shown_load seed policies = text_of (load_back seed policies) (load seed policies)

-- a partial sheet and rows (document 02, 2.14)
abbrev pub firm_back : List ℕ → List Row → Returned
firm_back sheet rows = firm_returned room room sheet rows

abbrev pub firm_text : List ℕ → List Row → List ℕ
firm_text sheet rows = quote_text (firm_group room room sheet rows) (firm_rows room room sheet rows)

unfoldable pub shown_firm : List ℕ → List Row → List ℕ
shown_firm sheet rows = text_of (firm_back sheet rows) (firm_text sheet rows)

-- the first n bytes of a buffer are this text
pub record Shows (text buffer : List ℕ) (n : ℕ) : Type 0 where
  pub front : take n buffer ≡ text
  pub within : IsPrefixLen n buffer
