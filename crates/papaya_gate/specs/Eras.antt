-- The stages of a gate, as plain data.
--
-- A gate is open, or in an era. While it is open, anyone may add tracked entries to the log. In an era only its authors may,
-- and each author has a list of its own: exactly the tracked entries that it added. The roll of an era names its authors.
use Rattle.std.specs.Prelude.{◌≡◌, ℕ, suc, ◌<◌, ◌==◌, cond, Option, None, Some, List, [], ◌∷◌, ◌++◌, length, map, All, Contains}
use base.Stored.{Coded, coded_ℕ, coded_list, coded×, coded_via}

-- The eras so far, each by the name of its roll, and the roll of the last of them, with the name of each author's list.
pub record Era : Type 0 where
  pub eras : List ℕ
  pub roll : List ℕ

abbrev pub era_coded : Coded Era
era_coded = coded_via (coded× (coded_list coded_ℕ) (coded_list coded_ℕ)) (λ (e : Era). (e.eras, e.roll))
    (λ x y p i. record { eras = (p i).0; roll = (p i).1 })

-- An author: the name of its list, and the list.
pub record Author (E : Type 0) : Type 0 where
  pub name : ℕ
  pub own : List E

module _ {E : Type 0} where
  abbrev pub author_coded : Coded E → Coded (Author E)
  author_coded c = coded_via (coded× coded_ℕ (coded_list c)) (λ (a : Author E). (a.name, a.own))
      (λ x y p i. record { name = (p i).0; own = (p i).1 })

  -- The last of these eras, with this only author.
  abbrev pub era_of : (eras : List ℕ) → Author E → Era
  era_of eras author = record { eras = eras; roll = author.name ∷ [] }

  abbrev pub names_of : List (Author E) → List ℕ
  names_of = map (λ (a : Author E). a.name)

  abbrev pub owns_of : List (Author E) → List (List E)
  owns_of = map (λ (a : Author E). a.own)

  -- The list of an author; nobody has none.
  abbrev pub own_of : Option (Author E) → List E
  own_of None = []
  own_of (Some a) = a.own

  -- The entries that are marked as the author k's, where each entry is marked with the number of its author.
  abbrev pub picks : (k : ℕ) → (marks : List ℕ) → List E → List E
  picks k [] log = []
  picks k (m ∷ ms) [] = []
  picks k (m ∷ ms) (e ∷ es) = cond (m == k) (e ∷ picks k ms es) (picks k ms es)

  -- The authors from number k on have these lists.
  abbrev pub ArePicked : (k : ℕ) → (marks : List ℕ) → List E → List (List E) → Type 0
  ArePicked k marks log [] = Unit {0}
  ArePicked k marks log (own ∷ owns) = (picks k marks log ≡ own) × ArePicked (suc k) marks log owns

  -- Each entry has an author, one of n.
  abbrev pub AreMarked : (n : ℕ) → (marks : List ℕ) → List E → Type 0
  AreMarked n marks log = (length marks ≡ length log) × All (λ m. m < n) marks

  -- The log is made of these lists, each in its order, and of nothing else.
  abbrev pub IsMerge : List (List E) → List E → Type 0
  IsMerge owns log = (marks : List ℕ) × AreMarked (length owns) marks log × ArePicked 0 marks log owns

  -- Whoever may add tracked entries: anyone while the gate is open, and in an era its authors.
  abbrev pub MayAdd : Option Era → Option (Author E) → Type 0
  MayAdd None writer = Unit {0}
  MayAdd (Some era) None = ⊥
  MayAdd (Some era) (Some author) = Contains era.roll author.name

  -- The writer after it added these entries. In an era they are at the end of its list.
  abbrev pub wrote : Option Era → Option (Author E) → (added : List E) → Option (Author E)
  wrote (Some era) (Some author) added = Some (record { name = author.name; own = author.own ++ added })
  wrote _ writer added = writer

  -- The gate is in an era, and this is its only author.
  abbrev pub IsOnly : Option Era → Option (Author E) → Type 0
  IsOnly None writer = ⊥
  IsOnly (Some era) None = ⊥
  IsOnly (Some era) (Some author) = era.roll ≡ author.name ∷ []

  -- The gate is in an era, and these are its authors, in the order of the roll.
  abbrev pub AreAll : Option Era → List (Author E) → Type 0
  AreAll None authors = ⊥
  AreAll (Some era) authors = era.roll ≡ names_of authors

  -- The era after an author came, who has written nothing.
  abbrev pub Comes : Option Era → Option Era → Option (Author E) → Type 0
  Comes (Some old) (Some new) (Some author) = (new.eras ≡ old.eras) × (new.roll ≡ old.roll ++ author.name ∷ []) × (author.own ≡ [])
  Comes _ _ _ = ⊥
