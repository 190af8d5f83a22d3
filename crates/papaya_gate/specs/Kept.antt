-- What a book keeps for its gate, and what the gate and its authors own.
--
-- The book keeps one half of each author's right to say what its list is, and the author has the other half. So a list grows
-- only where both are at hand: in a step of that author. The book also keeps what says that the log is a merge of the lists.
-- While the gate is open, the right to add as one likes is in the gate, and a step pays with a share of it.
use Rattle.std.specs.Prelude.{ℕ, suc, Bool, true, false, Option, None, Some, List, [], ◌∷◌, map, length, filter}
use base.Fraction.{full_share}
use base.Share as Share
use base.Stored.{Gv, coded_ℕ}
use base.Growing.{prefixes, latest, numbers}
use base.Fml.{Lft, Share, Fml, ftrue, fsep, fex, fshr_bor}
use Rattle.logbook.specs.Kept.{logs, fact}
use Rattle.papaya_gate.specs.Eras.{Era, Author, era_of, picks, AreMarked}

-- The names of a gated book: those of the list of eras and of the right to add as one likes, and those of the inner rule.
abbrev pub eras_name : List ℕ → ℕ
eras_name [] = 0
eras_name (γ ∷ names) = γ

abbrev pub leave_name : List ℕ → ℕ
leave_name (γ ∷ (τ ∷ names)) = τ
leave_name _ = 0

abbrev pub inner_names : List ℕ → List ℕ
inner_names (γ ∷ (τ ∷ names)) = names
inner_names _ = []

-- A share of the right to add as one likes.
abbrev pub leave : ℕ → Share → Fml
leave τ q = latest numbers q τ 0

-- A share of the right to say which numbers a growing list of numbers has.
abbrev pub called : Share → ℕ → List ℕ → Fml
called q β numbers = latest (prefixes coded_ℕ) q β numbers

-- The last era is named by its roll.
abbrev pub last_or : ℕ → List ℕ → ℕ
last_or d [] = d
last_or d (x ∷ xs) = last_or x xs

-- What the gate owns, by shares.
abbrev pub gate_holds : (γ τ : ℕ) → Option Era → Share → Fml
gate_holds γ τ None q = leave τ q
gate_holds γ τ (Some era) q = fsep (called (Share.left q) γ era.eras) (called (Share.left q) (last_or 0 era.eras) era.roll)

abbrev pub gate_owns : (names : List ℕ) → Option Era → Fml
gate_owns names era = gate_holds (eras_name names) (leave_name names) era full_share

abbrev pub gate_shares : (names : List ℕ) → Option Era → Lft → Fml
gate_shares names era κ = fshr_bor κ (gate_holds (eras_name names) (leave_name names) era)

module _ {E : Type 0} (c : E → Gv) where
  -- A share of the right to say which entries an author's list has.
  abbrev pub exactly : Share → ℕ → List E → Fml
  exactly q g own = latest logs q g (map c own)

  -- What an author owns, by shares. Nobody owns nothing.
  abbrev pub writer_holds : Option (Author E) → Share → Fml
  writer_holds None q = ftrue
  writer_holds (Some a) q = exactly (Share.right q) a.name a.own

  abbrev pub writer_owns : Option (Author E) → Fml
  writer_owns author = writer_holds author full_share

  abbrev pub writer_shares : Option (Author E) → Lft → Fml
  writer_shares author κ = fshr_bor κ (writer_holds author)

  -- What several authors own.
  abbrev pub team_owns : List (Author E) → Fml
  team_owns [] = ftrue
  team_owns (a ∷ authors) = fsep (exactly (Share.right full_share) a.name a.own) (team_owns authors)

  -- What a gate owns with the only author of its era, by shares; and the fact that it is never opened again.
  abbrev pub ended_holds : (names eras : List ℕ) → Author E → Share → Fml
  ended_holds names eras author q =
      fsep (gate_holds (eras_name names) (leave_name names) (Some (era_of eras author)) q) (exactly (Share.right q) author.name author.own)

  abbrev pub ended_owns : (names eras : List ℕ) → Author E → Fml
  ended_owns names eras author = fshr_bor [] (ended_holds names eras author)

  -- The book's half of each author's list.
  abbrev pub lines : (roll : List ℕ) → (k : ℕ) → (marks : List ℕ) → (log : List E) → Fml
  lines [] k marks log = ftrue
  lines (g ∷ roll) k marks log = fsep (exactly (Share.left full_share) g (picks k marks log)) (lines roll (suc k) marks log)

  -- A roll, and the author of each entry.
  abbrev pub written_by : (β : ℕ) → (log : List E) → List ℕ × List ℕ → Fml
  written_by β log t = fsep (called (Share.left full_share) β t.0) (fsep (lines t.0 0 t.1 log) (fact (AreMarked (length t.0) t.1 log)))

  abbrev pub written : (β : ℕ) → (log : List E) → Fml
  written β log = fex (List ℕ × List ℕ) (written_by β log)

  -- The gate is open; or it is in the last era, and the book keeps the whole right to add as one likes.
  abbrev pub side : (γ τ : ℕ) → (log : List E) → (eras : List ℕ) → (is_open : Bool) → Fml
  side γ τ log eras true = called (Share.right full_share) γ eras
  side γ τ log eras false = fsep (leave τ full_share) (written (last_or 0 eras) log)

  abbrev pub gate_with : (γ τ : ℕ) → (log : List E) → List ℕ × Bool → Fml
  gate_with γ τ log t = fsep (called (Share.left full_share) γ t.0) (side γ τ log t.0 t.1)

  -- What a book keeps for its gate, by the tracked entries of the log.
  abbrev pub gate : (γ τ : ℕ) → (log : List E) → Fml
  gate γ τ log = fex (List ℕ × Bool) (gate_with γ τ log)

  -- What a gated book keeps: what the inner rule keeps, and what is for the gate.
  abbrev pub gated : (keeps : List ℕ → List E → Fml) → (tracks : E → Bool) → (names : List ℕ) → (log : List E) → Fml
  gated keeps tracks names log = fsep (keeps (inner_names names) log) (gate (eras_name names) (leave_name names) (filter tracks log))
