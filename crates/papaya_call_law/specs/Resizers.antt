-- What a call that resizes the map relies on: facts about the words alone.
use Rattle.std.specs.Prelude.{◌≡◌, ◌⊎◌, ℕ, ◌+◌, ◌^◌, ◌<◌, ◌==◌, Bool, true, Option, None, Some, List, [], ◌∷◌, MatchBool}
use Rattle.papaya_words.specs.Table.{length_after}
use Rattle.papaya_words.specs.declared.refused.Refused.{Refused}
use Rattle.papaya_words.specs.declared.refused.Refused.TheVariants.{Capacity}
use Rattle.papaya_call.specs.declared.ask.Answer.TheVariants.{Word as Word_read, Exchanged, Found as Found_instead, Refused as Was_refused}
use Rattle.papaya_call.specs.declared.ask.At.{At}
use Rattle.papaya_call.specs.declared.copy_ask.CopyAsk.{CopyAsk}
use Rattle.papaya_call.specs.declared.copy_ask.CopyAsk.TheVariants.{Count, MakeTable}
use Rattle.papaya_call.specs.declared.copy.copying.Aim.{Aim}
use Rattle.papaya_call.specs.declared.copy.copying.Aim.TheVariants as aims
use Rattle.papaya_call.specs.declared.copy.link.Link.{Link}
use Rattle.papaya_call.specs.declared.copy.link.Link.TheVariants as links
use Rattle.papaya_call.specs.declared.chain.ask.Answer.{Answer}
use Rattle.papaya_call.specs.declared.chain.ask.Answer.TheVariants as answers
use Rattle.papaya_call.specs.declared.chain.resizer.Resize.TheVariants.{Reserve}
use Rattle.papaya_call.specs.declared.chain.resizer.Resizer.{Resizer}
use Rattle.papaya_call.specs.declared.chain.resizer.ResizerState.{ResizerState as Stage}
use Rattle.papaya_call.specs.declared.chain.resizer.ResizerState.TheVariants.{Opening, Sizing, Counting, Looking, Linking, Copying}
use Rattle.papaya_call.specs.Resizer.{ask_of, asks_in, follows_in, kind_in}
use Rattle.papaya_call.specs.TableSize.{entries_of}
use Rattle.papaya_words_law.specs.Class.{IsOn}
use Rattle.papaya_words_law.specs.Code.{Coding}
use Rattle.papaya_words_law.specs.Exchange.{Setting, State, Exchange, Open}
use Rattle.papaya_call_law.specs.Copier.{IsCopyAsked, ReliesCopying, ReliesLink, aim_of, link_in_copying}
use Rattle.papaya_call_law.specs.Relies.{IsCutAs, IsModeOf}
use Rattle.papaya_call_law.specs.ChainAnswers.{IsTrueOfCopy, LoadedPairs, Quiet}

-- the copy is one of a chunk or of all, after which no key is searched for
abbrev pub IsOwnAim : Aim → Type 0
IsOwnAim aims.Chunk = Unit {0}
IsOwnAim (aims.All met) = Unit {0}
IsOwnAim _ = ⊥

module _ {K P : Type 0} (g : Setting K P) (c : Coding K P) (s : State P) where
  abbrev pub ReliesStage : LoadedPairs P → Stage → Type 0
  ReliesStage loaded (Opening table) = 0 < table
  ReliesStage loaded (Sizing root) = IsOn s.first s.next root × (s.was_root root ≡ true)
  ReliesStage loaded (Counting root len) = IsOn s.first s.next root × (s.was_root root ≡ true)
      × (len ≡ g.size root)
  ReliesStage loaded (Looking root len None) = IsOn s.first s.next root
  ReliesStage loaded (Looking root len (Some room)) = IsOn s.first s.next root
      × (s.was_root root ≡ true) × (len ≡ g.size root)
  ReliesStage loaded (Linking link) = ReliesLink g c s link
  ReliesStage loaded (Copying from copying) = IsOwnAim (aim_of copying)
      × ReliesCopying g c s loaded.call.last loaded.kept copying
  ReliesStage loaded _ = Unit {0}

  pub record ReliesResizer (resizer : Resizer) (loaded : LoadedPairs P) : Type 0 where
    pub mode : IsModeOf resizer.mode g.blocking
    pub cut : IsCutAs resizer.mode g.chunk_of
    pub stage : ReliesStage loaded resizer.state

  -- a first table is opened if there is no root
  abbrev pub IsTrueOfOpen : (table : ℕ) → LoadedPairs P → Answer → List (Exchange P) → LoadedPairs P
      → Type 0
  IsTrueOfOpen table loaded answer es loaded' = MatchBool (s.root == 0)
      ((answer ≡ answers.Call Exchanged) × (es ≡ Open table ∷ []) × (loaded' ≡ loaded))
      ((answer ≡ answers.Call (Found_instead s.root)) × Quiet g c loaded es loaded')

  -- The answer to a resizer's ask is true of the words in s, and `es` has the exchange, if one was
  -- made. The ask is to open a table, or one that a copy makes.
  abbrev pub IsTrueOfStage : Stage → LoadedPairs P → Answer → List (Exchange P) → LoadedPairs P
      → Type 0
  IsTrueOfStage (Opening table) loaded answer es loaded' = IsTrueOfOpen table loaded answer es loaded'
  IsTrueOfStage stage loaded answer es loaded' = (ask : CopyAsk) × (asks_in stage ≡ Some ask)
      × IsTrueOfCopy g c s (kind_in stage) (follows_in stage) loaded ask answer es loaded'

  -- the exchange of the law for which a resizer asks
  abbrev pub IsStageAsked : Stage → At → ℕ → LoadedPairs P → Exchange P → Type 0
  IsStageAsked (Opening table) at new loaded e = e ≡ Open table
  IsStageAsked stage at new loaded e = IsCopyAsked c (kind_in stage) at new s loaded.kept e

-- the making of a table that is under way, if there is one
abbrev pub link_of : Stage → Option Link
link_of (Linking link) = Some link
link_of (Copying from copying) = link_in_copying copying
link_of _ = None

-- this is the making of a table that is under way
abbrev pub HasLink : Stage → Link → Type 0
HasLink (Linking link) other = link ≡ other
HasLink (Copying from copying) link = link_in_copying copying ≡ Some link
HasLink _ link = ⊥

-- a table of these sizes was to be made, and was refused
pub record WasNotMade (resizer : Resizer) (answer : Answer) (refused : Refused) : Type 0 where
  pub slots : ℕ
  pub limit : ℕ
  pub chunks : ℕ
  pub asks : ask_of resizer ≡ Some (MakeTable slots limit chunks)
  pub is : answer ≡ answers.Call (Was_refused refused)

-- the table after one of `slots` slots would be longer than a table may be, by the count in the
-- answer
pub record WouldBeTooLong (resizer : Resizer) (answer : Answer) (refused : Refused) : Type 0 where
  pub capacity : refused ≡ Capacity
  pub behind : ℕ
  pub unfit : Bool
  pub slots : ℕ
  pub copied : ℕ
  pub link : HasLink resizer.state (links.Counting behind unfit slots copied)
  pub asks : ask_of resizer ≡ Some Count
  pub count : ℕ
  pub is : answer ≡ answers.Count count
  pub long : 2 ^ 32 < length_after slots count resizer.initial unfit

-- the answer says that there is no root, and `count` is 0; or it says that the map counts `count`
-- pairs
abbrev pub IsTrueOfCount : Answer → (count : ℕ) → Type 0
IsTrueOfCount answer count = ((answer ≡ answers.Call (Word_read 0)) × (count ≡ 0))
    ⊎ (answer ≡ answers.Count count)

-- room was reserved for more pairs than a table may have slots for
pub record IsTooMuchRoom (resizer : Resizer) (answer : Answer) (refused : Refused) : Type 0 where
  pub capacity : refused ≡ Capacity
  pub more : ℕ
  pub resize : resizer.resize ≡ Reserve more
  pub count : ℕ
  pub counts : IsTrueOfCount answer count
  pub long : 2 ^ 32 < entries_of (count + more)

-- why an answer ends a resizer with a refusal
abbrev pub IsResizeCause : Resizer → Answer → Refused → Type 0
IsResizeCause resizer answer refused = WasNotMade resizer answer refused
    ⊎ WouldBeTooLong resizer answer refused ⊎ IsTooMuchRoom resizer answer refused
