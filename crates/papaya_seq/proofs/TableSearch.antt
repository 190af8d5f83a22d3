-- A search stays in its table until it is over, and compares only words that it may.
use Rattle.std.proofs.Common.{◌≡◌, ℕ, nat_lt, Bool, true, false, Option, None, Some, IsSome, refl}
use Rattle.std.proofs.lemmas.Bool.{cond_both}
use Rattle.papaya_words.specs.Word.{kind_of, may_hold}
use Rattle.papaya_words.specs.declared.word.Kind.{Kind}
use Rattle.papaya_words.specs.declared.word.Kind.TheVariants as kinds
use Rattle.papaya_call.specs.Search.{at_size, at_word, at_yes, go_on, hinted, look_at, match_at, next_place}
use Rattle.papaya_call.specs.declared.search.Place.{Place}
use Rattle.papaya_call.specs.declared.search.Search.{Search}
use Rattle.papaya_call.specs.declared.search.Search.TheVariants.{Sizing, Looking, Reading, Comparing}
use Rattle.papaya_call.specs.declared.search.ProbeStep.{ProbeStep}
use Rattle.papaya_call.specs.declared.search.ProbeStep.TheVariants as seen
use Rattle.papaya_call_alone.specs.Rank.{table_of}
use Rattle.papaya_core_store.specs.Store.{Stored}
use Rattle.papaya_seq.specs.Looks.{matches_in}

-- a word of this kind names a pair in whose key the search may find its own
abbrev pub IsPairKind : Kind → Type 0
IsPairKind kinds.Live = Unit {0}
IsPairKind kinds.Marked = Unit {0}
IsPairKind kinds.Copied = Unit {0}
IsPairKind _ = ⊥

-- `May` states which words may be compared
module _ (May : ℕ → Type 0) where
  -- a search that compares compares such a word
  abbrev pub MayCompare : Search → Type 0
  MayCompare (Sizing table) = Unit {0}
  MayCompare (Looking at) = Unit {0}
  MayCompare (Reading at) = Unit {0}
  MayCompare (Comparing at word) = May word

  -- a search is in this table
  abbrev pub IsSearchIn : ℕ → Search → Type 0
  IsSearchIn t search = (table_of search ≡ t) × MayCompare search

  -- a step of a search of the table
  abbrev pub IsSeenIn : ℕ → ProbeStep → Type 0
  IsSeenIn t (seen.On search) = IsSearchIn t search
  IsSeenIn t (seen.Empty at) = at.table ≡ t
  IsSeenIn t (seen.Here at word) = (at.table ≡ t) × May word × (kind_of word ≡ kinds.Copied → ⊥)
  IsSeenIn t (seen.Over table) = table ≡ t

  module _ (t : ℕ) where
    -- a search continues in its table
    go_on_in : (at : Place) → at.table ≡ t → IsSeenIn t (go_on at)
    go_on_in at here = cond_both (nat_lt at.probe.len at.limit) (seen.On (Looking (next_place at))) (seen.Over at.table) (IsSeenIn t)
        (λ _. (here, tt)) (λ _. here)

    pub hinted_in : (at : Place) (hash hint : ℕ) → at.table ≡ t → IsSeenIn t (hinted at hash hint)
    hinted_in at hash hint here = cond_both (may_hold hint hash) (seen.On (Reading at)) (go_on at) (IsSeenIn t) (λ _. (here, tt)) (λ _. go_on_in at here)

    look_in : (kind : Kind) (at : Place) (word : ℕ) → at.table ≡ t → (IsPairKind kind → May word) → IsSeenIn t (look_at kind at word)
    look_in kinds.Empty at word here may = here
    look_in kinds.Buried at word here may = go_on_in at here
    look_in kinds.Closed at word here may = go_on_in at here
    look_in kinds.Live at word here may = (here, may tt)
    look_in kinds.Marked at word here may = (here, may tt)
    look_in kinds.Copied at word here may = (here, may tt)

    match_in : (kind : Kind) (at : Place) (word : ℕ) → kind_of word ≡ kind → at.table ≡ t → May word → IsSeenIn t (match_at kind at word)
    match_in kinds.Copied at word is here may = here
    match_in kinds.Empty at word is here may = (here, may, λ copied. cc (is, copied))
    match_in kinds.Live at word is here may = (here, may, λ copied. cc (is, copied))
    match_in kinds.Marked at word is here may = (here, may, λ copied. cc (is, copied))
    match_in kinds.Buried at word is here may = (here, may, λ copied. cc (is, copied))
    match_in kinds.Closed at word is here may = (here, may, λ copied. cc (is, copied))

    -- after each answer
    pub loaded_in : (search : Search) (hash word : ℕ) → IsSearchIn t search → (IsPairKind (kind_of word) → May word) → IsSeenIn t (at_word search hash word)
    loaded_in (Sizing table) hash word now may = now
    loaded_in (Looking at) hash hint now may = hinted_in at hash hint now.0
    loaded_in (Reading at) hash word now may = look_in (kind_of word) at word now.0 may
    loaded_in (Comparing at read) hash word now may = now

    pub compared_in : (search : Search) (same : Bool) → IsSearchIn t search → IsSeenIn t (at_yes search same)
    compared_in (Sizing table) same now = now
    compared_in (Looking at) same now = now
    compared_in (Reading at) same now = now
    compared_in (Comparing at word) true now = match_in (kind_of word) at word refl now.0 now.1
    compared_in (Comparing at word) false now = go_on_in at now.0

    pub sized_in : (search : Search) (hash slots limit : ℕ) → IsSearchIn t search → IsSearchIn t (at_size search hash slots limit)
    sized_in (Sizing table) hash slots limit now = now
    sized_in (Looking at) hash slots limit now = now
    sized_in (Reading at) hash slots limit now = now
    sized_in (Comparing at word) hash slots limit now = now

-- a word that is Live or was copied, as all pairs are of a table without a next one
abbrev pub IsSettledKind : Kind → Type 0
IsSettledKind kinds.Live = Unit {0}
IsSettledKind kinds.Copied = Unit {0}
IsSettledKind _ = ⊥

pub settled_kind : (kind : Kind) → (kind ≡ kinds.Marked → ⊥) → IsPairKind kind → IsSettledKind kind
settled_kind kinds.Live unmarked pair = tt
settled_kind kinds.Copied unmarked pair = tt
settled_kind kinds.Marked unmarked pair = unmarked refl
settled_kind kind unmarked pair = pair

-- such a word that was not copied is Live
pub settled_live : (kind : Kind) → IsSettledKind kind → (kind ≡ kinds.Copied → ⊥) → kind ≡ kinds.Live
settled_live kinds.Live settled uncopied = refl
settled_live kinds.Copied settled uncopied = absurd (uncopied refl)
settled_live kind settled uncopied = absurd settled

-- a pair that matches is there
pub some_matched : {K V : Type 0} (matches : K → Bool) (o : Option (Stored K V)) → matches_in matches o ≡ true → IsSome o
some_matched matches None e = let f : false ≡ true = e in absurd cc
some_matched matches (Some p) e = refl
