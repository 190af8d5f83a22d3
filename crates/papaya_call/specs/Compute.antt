-- A compute: the state after each result of its closure.
use Rattle.std.specs.Prelude.{ℕ, ◌<◌, ◌^◌, ◌==◌, if◌then◌else◌, Option, Some, None}
use Rattle.papaya_words.specs.Word.{pair_of}
use Rattle.papaya_words.specs.declared.refused.Refused.TheVariants.{RemoveNothing}
use Rattle.papaya_call.specs.declared.ask.OpKind.{OpKind}
use Rattle.papaya_call.specs.declared.ask.OpKind.TheVariants.{Insert, Remove, Abort}
use Rattle.papaya_call.specs.declared.call.Reply.TheVariants.{Aborted, Refused as Reply_refused}
use Rattle.papaya_call.specs.declared.compute.Choice.{Choice}
use Rattle.papaya_call.specs.declared.compute.Choice.TheVariants.{Replace as To_replace, Remove as To_remove}
use Rattle.papaya_call.specs.declared.compute.Gap.{Gap}
use Rattle.papaya_call.specs.declared.compute.Gap.TheVariants.{NoRoot, At, After}
use Rattle.papaya_call.specs.declared.compute.Purpose.{Purpose}
use Rattle.papaya_call.specs.declared.compute.Purpose.TheVariants.{Fill, Replace, Again}
use Rattle.papaya_call.specs.declared.compute.Put.{Put}
use Rattle.papaya_call.specs.declared.compute.Remembered.{Remembered}
use Rattle.papaya_call.specs.declared.machine.State.{State}
use Rattle.papaya_call.specs.declared.made.Of.{Of}
use Rattle.papaya_call.specs.declared.machine.State.TheVariants.{Making, Offering, Pairing, Putting, Showing, Burying, Growing, Ended}
use Rattle.papaya_call.specs.declared.need.Need.TheVariants.{Room}
use Rattle.papaya_call.specs.declared.remove.Removal.{Removal}
use Rattle.papaya_call.specs.declared.search.Place.{Place}
use Rattle.papaya_call.specs.Search.{IsWithin}
use Rattle.papaya_call.specs.Made.{serves_at}
use Rattle.papaya_call.specs.Write.{made_of}

-- nothing is remembered yet
abbrev pub nothing : Remembered
nothing = record { fill = None; choice = None }

-- the state in which pair n goes where its key is absent: into a first table, an empty place, or a
-- next table
abbrev pub fills : Gap → ℕ → State
fills NoRoot n = Making
fills (At place) n = Putting (record { write = record { place = place; old = 0 }; pair = n })
fills (After table) n = Growing (Room table)

-- the state if the key is absent: the closure is called with None, unless its insertion is
-- remembered
abbrev pub lacks : Option ℕ → Gap → State
lacks None gap = Offering gap
lacks (Some n) gap = fills gap n

-- the state after the closure was called with None and returned an operation of this kind
abbrev pub offered : Gap → OpKind → State
offered gap Insert = Pairing (Fill gap)
offered gap Remove = Ended (Reply_refused RemoveNothing)
offered gap (Abort t) = Ended (Aborted t)

-- the state after the closure was called with a pair and returned an operation of this kind
abbrev pub chosen : Removal → OpKind → State
chosen shown Insert = Pairing (Replace (record { place = shown.place; old = shown.word }))
chosen shown Remove = Burying shown
chosen shown (Abort t) = Ended (Aborted t)

-- the state after a pair was made of the value that the closure returned
abbrev pub provides : Purpose → ℕ → State
provides (Fill gap) n = fills gap n
provides (Replace write) n = Putting (record { write = write; pair = n })
provides (Again write) n = Putting (record { write = write; pair = n })

-- the word that a pair is to replace, 0 if it replaces none
abbrev pub in_place_of : Purpose → ℕ
in_place_of (Fill gap) = 0
in_place_of (Replace write) = write.old
in_place_of (Again write) = write.old

-- the state if a new pair is remembered for the pair that `word` names: it is written if it was
-- made for this slot, and otherwise a pair is made again
abbrev pub recalled : Of → Place → (word : ℕ) → State
recalled new at word = if serves_at new at.table at.probe.i
    then Putting (record { write = record { place = at; old = word }; pair = new.pair })
    else Pairing (Again (record { place = at; old = word }))

-- the state at a word that names the pair of number n: a remembered result is used if it is for
-- this pair, and otherwise the closure is called with it
abbrev pub recalls : Option Choice → Place → (word pair : ℕ) → State
recalls None at word n = Showing (record { place = at; word = word })
recalls (Some (To_replace old new)) at word n = if old == n then recalled new at word
    else Showing (record { place = at; word = word })
recalls (Some (To_remove old)) at word n = if old == n
    then Burying (record { place = at; word = word })
    else Showing (record { place = at; word = word })

-- the state at a Live word of a pair with the key: the closure is called with it, unless its result
-- for this pair is remembered
abbrev pub meets : Option Choice → Place → ℕ → State
meets choice at word = recalls choice at word (pair_of word)

-- what is remembered after the closure was called with a pair
abbrev pub with_choice : Remembered → Removal → OpKind → Remembered
with_choice held shown Insert = held
with_choice held shown Remove = record held { choice = Some (To_remove (pair_of shown.word)) }
with_choice held shown (Abort t) = held

-- what is remembered after pair n was made; if it is for an absent key, no pair with which the
-- closure was called before can come again
abbrev pub with_pair : Remembered → Purpose → ℕ → Remembered
with_pair held (Fill gap) n = record { fill = Some n; choice = None }
with_pair held (Replace write) n = record held {
  choice = Some (To_replace (pair_of write.old) (made_of write n));
}
with_pair held (Again write) n = record held {
  choice = Some (To_replace (pair_of write.old) (made_of write n));
}

-- a gap, a purpose and a put are within their table; the number of a pair fits a word
abbrev pub IsGap : Gap → Type 0
IsGap NoRoot = Unit {0}
IsGap (At place) = IsWithin place
IsGap (After table) = Unit {0}

abbrev pub IsPurpose : Purpose → Type 0
IsPurpose (Fill gap) = IsGap gap
IsPurpose (Replace write) = IsWithin write.place
IsPurpose (Again write) = IsWithin write.place

pub record IsPut (put : Put) : Type 0 where
  pub within : IsWithin put.write.place
  pub pair : put.pair < 2 ^ 48

-- the numbers of remembered pairs fit a word
abbrev pub IsFill : Option ℕ → Type 0
IsFill None = Unit {0}
IsFill (Some n) = n < 2 ^ 48

abbrev pub IsChoice : Option Choice → Type 0
IsChoice None = Unit {0}
IsChoice (Some (To_replace old new)) = new.pair < 2 ^ 48
IsChoice (Some (To_remove old)) = Unit {0}

pub record IsRemembered (held : Remembered) : Type 0 where
  pub fill : IsFill held.fill
  pub choice : IsChoice held.choice
