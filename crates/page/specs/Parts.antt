-- What the parts of the call leave, once the work slices are known to be long enough.
use Rattle.std.specs.Prelude.{List, ℕ, length}
use Rattle.sheet.specs.Forms.{partial}
use Rattle.sheet.specs.Sheet.{read}
use Rattle.sheet.specs.Call.{checked_then, fitted}
use Rattle.response.specs.Runs.{Gives, Sends, Holding}
use Rattle.paged.specs.Page.{page, page_bytes}

-- where the words hold the sheet, its page is sent
abbrev pub Shows : List ℕ → List ℕ → List ℕ → List ℕ → ℕ → ℕ → List ℕ → Type 0
Shows sheet a b out number len out' = Holding partial sheet a b → Sends (page (read partial sheet).state) out number len out'

-- 2, then 3 to 8, then 10 or the page
abbrev pub Pages : List ℕ → List ℕ → ℕ → ℕ → ℕ → List ℕ → Type 0
Pages sheet out number line len out' = Gives (checked_then partial sheet (fitted (length out) page_bytes)) (page (read partial sheet).state) out number line len out'
