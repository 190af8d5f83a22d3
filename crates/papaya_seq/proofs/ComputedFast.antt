-- A compute on the fast path: its stores and writes are answers to the asks of its machine.
use Rattle.std.proofs.Common.{◌≡◌, ◌≢◌, ℕ, ◌<◌, ◌==◌, slice_get, Bool, true, false, cond, List, []}
use Rattle.std.proofs.Common.{◌∷◌, Option, None, Some, IsSome, Result, Ok, Err, option_map, length}
use Rattle.std.proofs.Common.{inl, inr, refl, sym, ◌∙◌, ap, subst}
use Rattle.std.proofs.lemmas.Bool.{ne_eqb}
use Rattle.std.specs.Prelude.{MatchOption, pos, negsuc}
use denote.Ref.{Bor}
use Rattle.papaya_words.specs.Counter.{added}
use Rattle.papaya_words.specs.Word.{kind_of, live_word, pair_of as number_of}
use Rattle.papaya_words.specs.declared.limits.TheConstants.{MAX_LOG_LEN}
use Rattle.papaya_words.specs.declared.refused.Refused.{Refused}
use Rattle.papaya_words.specs.declared.refused.Refused.TheVariants.{RemoveNothing}
use Rattle.papaya_words.specs.declared.resize_mode.ResizeMode.{ResizeMode}
use Rattle.papaya_words.specs.declared.word.Kind.{Kind}
use Rattle.papaya_words.specs.declared.word.Kind.TheVariants as kinds
use Rattle.papaya_call.specs.declared.ask.Answer.TheVariants.{Exchanged, Made as Made_number, Op, Ok as Ok_done, Refused as Was_refused}
use Rattle.papaya_call.specs.declared.ask.Ask.TheVariants.{MakeValue, MakePairOf, ShowPair}
use Rattle.papaya_call.specs.declared.ask.OpKind.TheVariants as told
use Rattle.papaya_call.specs.declared.search.Place.{Place}
use Rattle.papaya_call.specs.declared.call.Task.TheVariants.{Compute}
use Rattle.papaya_call.specs.declared.call.Reply.{Reply}
use Rattle.papaya_call.specs.declared.call.Reply.TheVariants.{Inserted, Replaced, Removed, Aborted, Refused as Reply_refused}
use Rattle.papaya_call.specs.declared.answers.Operation.{Operation}
use Rattle.papaya_call.specs.declared.answers.Operation.TheVariants as ops
use Rattle.papaya_call.specs.declared.compute.Gap.TheVariants.{At}
use Rattle.papaya_call.specs.declared.compute.Purpose.{Purpose}
use Rattle.papaya_call.specs.declared.compute.Purpose.TheVariants.{Fill, Replace}
use Rattle.papaya_call.specs.declared.compute.Remembered.{Remembered}
use Rattle.papaya_call.specs.declared.machine.Machine.{Machine}
use Rattle.papaya_call.specs.declared.machine.State.{State}
use Rattle.papaya_call.specs.declared.machine.State.TheVariants.{Offering, Showing, Pairing, Putting, Counting, Noting, Ended}
use Rattle.papaya_call.specs.declared.made.Grown.{Grown}
use Rattle.papaya_call.specs.declared.made.Grown.TheVariants.{On as More, Pair as Whole}
use Rattle.papaya_call.specs.declared.made.Made.{Made}
use Rattle.papaya_call.specs.declared.remove.Removal.{Removal}
use Rattle.papaya_call.specs.declared.write.Write.{Write}
use Rattle.papaya_call.specs.Compute.{nothing, with_pair}
use Rattle.papaya_call.specs.Machine.{after, asks as call_asks, computes, made_to_pair, paired, paired_held, started, written}
use Rattle.papaya_call.specs.Made.{grown, nothing_made, of_ask, of_grown, own_ask, own_grown}
use Rattle.papaya_call.specs.Remove.{grave_word}
use Rattle.papaya_call.specs.Write.{claimed_by}
use Rattle.papaya_call.specs.declared.chain.ask.Answer.{Answer as Chain_answer}
use Rattle.papaya_call.specs.declared.chain.ask.Answer.TheVariants as answers
use Rattle.papaya_call.specs.declared.chain.ask.Ask.TheVariants as asks
use Rattle.papaya_core_store.specs.declared.pairs.Pair.{Pair}
use Rattle.papaya_core_store.specs.declared.pairs.Pair.TheVariants as pairs
use Rattle.papaya_core_store.specs.declared.pairs.Part.{Part}
use Rattle.papaya_core_store.specs.declared.pairs.Part.TheVariants.{Own, Logged}
use Rattle.papaya_core_store.specs.declared.pairs.Running.{Running}
use Rattle.papaya_core_store.specs.Pairs.{key_from}
use Rattle.papaya_core_store.specs.Performs.{Refuses}
use Rattle.papaya_core_store.specs.Store.{StoreState, Stored, pair_of}
use Rattle.papaya_core_store.specs.Tables.{put, word_at}
use Rattle.papaya_words_keys.specs.declared.results.Computed.{Computed}
use Rattle.papaya_seq.specs.ComputeRuns.{IsComputedFrom, IsOperated, ended_by, told_by, value_by}
use Rattle.papaya_seq.specs.Computes.{AreOf}
use Rattle.papaya_seq.specs.Computing.{IsComputed}
use Rattle.papaya_seq.specs.Drives.{Drives, IsReplied, at_hand}
use Rattle.papaya_seq.specs.Looks.{Comes}
use Rattle.papaya_seq.specs.Map.{deref_pair, entry_of}
use Rattle.papaya_seq.specs.Searches.{IsRootHit}
use Rattle.papaya_seq.specs.Writes.{IsWritten, claiming, burying, slot_of, storing}
use Rattle.papaya_seq.specs.declared.search.ProbeHit.TheVariants as turns
use Rattle.papaya_seq.proofs.FastPath.{driven, logging, under_way}
use Rattle.papaya_seq.proofs.Exchanging.{exchange_made}

-- the entry of a pair that is there is that pair's
pub shown_pair : {K V S : Type 0} (s : StoreState K V S) (n : ℕ) (entry : Option (Bor K × Bor V))
    → MatchOption entry (pair_of s n ≡ None) (λ p. pair_of s n ≡ Some (record { number = n; key = p.0.now; value = p.1.now })) → IsSome (pair_of s n)
    → (p : Stored K V) × (p.number ≡ n) × (pair_of s n ≡ Some p) × AreOf entry (Some p)
shown_pair {K} {V} s n None gone some = let e : IsSome {T = Stored K V} None = subst (λ (o : Option (Stored K V)). IsSome o) gone some in absurd cc
shown_pair s n (Some entry) there some = (record { number = n; key = entry.0.now; value = entry.1.now }, refl, there, refl)

-- a Live word is no empty slot's
pub live_some : (word : ℕ) → kind_of word ≡ kinds.Live → word ≢ 0
live_some word live none = let f : kinds.Empty ≡ kinds.Live = ap kind_of (sym none) ∙ live in cc f

module _ {K V S : Type 0} (eq : K → K → Bool) (hash : S → K → ℕ) (s : StoreState K V S) (key : K) (hashed : ℕ) (place : Place) (mode : ResizeMode)
    (initial : ℕ) where
  -- the compute in this state, with the pairs that it made and remembers
  abbrev stands_at : Made → Remembered → State → Machine
  stands_at made held state = record (started Compute hashed mode initial None) { made = made; remembered = held; state = state }

  -- nothing was made, and its closure has returned nothing
  abbrev bare : State → Machine
  bare state = stands_at (nothing_made None) nothing state

  -- with this of its key and its value
  abbrev having : Part K → Part V → Made → Remembered → State → Running K V (Unit {0})
  having k v made held state = under_way (stands_at made held state) k (Some v)

  abbrev at_place : ℕ → Write
  at_place old = record { place = place; old = old }

  module _ (value : V) where
    -- a pair is made for an empty place
    abbrev fill : Purpose
    fill = Fill (At place)

    abbrev keyed : Made
    keyed = record (nothing_made None) { keyed = true }

    abbrev own_valued : Made
    own_valued = record keyed { valued = true }

    own_drives : (rest : List Chain_answer) (s' : StoreState K V S) (r' : Running K V (Unit {0}))
        → Drives eq hash rest s (having (Own key) (Own value) own_valued nothing (Pairing fill)) s' r'
        → Drives eq hash (answers.Call (Made_number 0) ∷ answers.Call (Made_number 0) ∷ rest) s (at_hand (bare (Pairing fill)) key (Some value)) s' r'
    own_drives rest s' r' more = (
      s,
      at_hand (bare (Pairing fill)) key (Some value),
      record { asked = tt; fit = tt; performs = (Made_number 0, refl, (refl, (refl, refl))); same = refl },
      (
        s,
        having (Own key) (Own value) keyed nothing (Pairing fill),
        record { asked = tt; fit = tt; performs = (Made_number 0, refl, (refl, (refl, refl))); same = refl },
        more,
      ),
    )

    own_refused : (refused : Refused) → Refuses MAX_LOG_LEN (length s.pairs) (Was_refused refused)
        → IsReplied eq hash s (at_hand (bare (Pairing fill)) key (Some value)) (Reply_refused refused) (Some value) s
    own_refused refused cause = record {
      answers = answers.Call (Made_number 0) ∷ answers.Call (Made_number 0) ∷ answers.Call (Was_refused refused) ∷ [];
      end = having (Own key) (Own value) own_valued nothing (Ended (Reply_refused refused));
      drives = own_drives (answers.Call (Was_refused refused) ∷ []) s (having (Own key) (Own value) own_valued nothing (Ended (Reply_refused refused))) (
        s,
        having (Own key) (Own value) own_valued nothing (Pairing fill),
        record { asked = tt; fit = tt; performs = (Was_refused refused, refl, inl (cause, (refl, refl))); same = refl },
        (refl, refl),
      );
      replied = refl;
      value = refl;
    }

    -- it is stored in the arena, put, counted, and its hint written
    abbrev own_logged : State → Running K V (Unit {0})
    own_logged state = having (Logged (length s.pairs)) (Logged (length s.pairs)) own_valued (with_pair nothing fill (length s.pairs)) state

    filled : length s.pairs < MAX_LOG_LEN → word_at s.words (slot_of place) ≡ 0
        → IsReplied eq hash s (at_hand (bare (Pairing fill)) key (Some value)) (Inserted (length s.pairs)) None (claiming s hashed place (pairs.Own key value))
    filled few stands = record {
      answers = answers.Call (Made_number 0) ∷ answers.Call (Made_number 0) ∷ rest;
      end = own_logged (Ended (Inserted (length s.pairs)));
      drives = own_drives rest (claiming s hashed place (pairs.Own key value)) (own_logged (Ended (Inserted (length s.pairs)))) (
        logged,
        record (having (Own key) (Own value) own_valued nothing (Pairing fill)) { key = Logged (length s.pairs); value = Some (Logged (length s.pairs)) },
        record { asked = tt; fit = tt; performs = (Made_number (length s.pairs), refl, inr (inr (Own value, refl, refl, few, refl, refl))); same = refl },
        (
          exchanged,
          own_logged (Putting (record { write = at_place 0; pair = length s.pairs })),
          record {
            asked = tt;
            fit = tt;
            performs =
                (Exchanged, refl, (exchange_made logged (slot_of place) 0 (live_word (length s.pairs)) stands, refl));
            same = refl;
          },
          (
            record exchanged { count = added s.count 0 (pos 1) },
            own_logged (Counting (claimed_by (at_place 0) (length s.pairs))),
            record { asked = tt; fit = tt; performs = (Ok_done, refl, (refl, (0, refl), refl)); same = refl },
            (
              claiming s hashed place (pairs.Own key value),
              own_logged (Noting (claimed_by (at_place 0) (length s.pairs))),
              record { asked = tt; fit = tt; performs = (Ok_done, refl, (refl, refl, refl)); same = refl },
              (refl, refl),
            ),
          ),
        ),
      );
      replied = refl;
      value = refl;
    }
      where
        logged : StoreState K V S
        logged = logging eq hash s key value hashed place (bare (Pairing fill)) (pairs.Own key value)

        exchanged : StoreState K V S
        exchanged = storing s place (pairs.Own key value)

        rest : List Chain_answer
        rest = answers.Call (Made_number (length s.pairs)) ∷ answers.Call Exchanged ∷ answers.Call Ok_done ∷ answers.Call Ok_done ∷ []

    pub fill_written : word_at s.words (slot_of place) ≡ 0 → (reply : Reply) (left : Option V) (s' : StoreState K V S)
        → IsWritten s hashed (at_place 0) key value reply left s' → IsReplied eq hash s (at_hand (bare (Pairing fill)) key (Some value)) reply left s'
    fill_written stands (Inserted n) left s' (empty, stored, is) =
        subst (IsReplied eq hash s (at_hand (bare (Pairing fill)) key (Some value)) (Inserted n) left) (sym is)
        (subst (λ l. IsReplied eq hash s (at_hand (bare (Pairing fill)) key (Some value)) (Inserted n) l
        (claiming s hashed place (pairs.Own key value))) (sym stored.left_is)
        (subst (λ z. IsReplied eq hash s (at_hand (bare (Pairing fill)) key (Some value)) (Inserted z) None
        (claiming s hashed place (pairs.Own key value))) (sym stored.number) (filled stored.few stands)))
    fill_written stands (Replaced gone n) left s' (some, stored, gone_is, from) = absurd (some refl)
    fill_written stands (Reply_refused refused) left s' (cause, left_is, is) =
        subst (IsReplied eq hash s (at_hand (bare (Pairing fill)) key (Some value)) (Reply_refused refused) left) (sym is)
        (subst (λ l. IsReplied eq hash s (at_hand (bare (Pairing fill)) key (Some value)) (Reply_refused refused) l s) (sym left_is)
        (own_refused refused cause))
    fill_written stands reply left s' wrote = absurd wrote

    -- or in the place of another one
    module _ (old : ℕ) (some : (old == 0) ≡ false) where
      abbrev take_place : Purpose
      take_place = Replace (at_place old)

      abbrev of_valued : Made
      of_valued = record (nothing_made None) { valued = true }

      wants_value : call_asks (nothing_made None) hashed (Pairing take_place) ≡ MakeValue
      wants_value = ap (λ b. cond b (own_ask false false) (of_ask false old)) some

      wants_pair : call_asks of_valued hashed (Pairing take_place) ≡ MakePairOf (number_of old)
      wants_pair = ap (λ b. cond b (own_ask false true) (of_ask true old)) some

      grows_value : grown (nothing_made None) old ≡ More of_valued
      grows_value = ap (λ b. cond b (own_grown false false (nothing_made None)) (of_grown false (nothing_made None))) some

      grows_pair : grown of_valued old ≡ Whole of_valued
      grows_pair = ap (λ b. cond b (own_grown false true of_valued) (of_grown true of_valued)) some

      -- the call continues after something was made
      abbrev goes_on : Grown → ℕ → Machine
      goes_on grew n = stands_at (made_to_pair grew) (paired_held grew nothing take_place n) (paired grew take_place n)

      of_drives : (rest : List Chain_answer) (s' : StoreState K V S) (r' : Running K V (Unit {0}))
          → Drives eq hash rest s (having (Own key) (Own value) of_valued nothing (Pairing take_place)) s' r'
          → Drives eq hash (answers.Call (Made_number 0) ∷ rest) s (at_hand (bare (Pairing take_place)) key (Some value)) s' r'
      of_drives rest s' r' more = (
        s,
        at_hand (bare (Pairing take_place)) key (Some value),
        driven eq hash (bare (Pairing take_place)) (Own key) (Some (Own value)) MakeValue wants_value (Made_number 0) tt tt s s
            (at_hand (bare (Pairing take_place)) key (Some value)) (refl, (refl, refl)) refl,
        subst (λ grew. Drives eq hash rest s (under_way (goes_on grew 0) (Own key) (Some (Own value))) s' r') (sym grows_value) more,
      )

      of_refused : (refused : Refused) → Refuses MAX_LOG_LEN (length s.pairs) (Was_refused refused)
          → IsReplied eq hash s (at_hand (bare (Pairing take_place)) key (Some value)) (Reply_refused refused) (Some value) s
      of_refused refused cause = record {
        answers = answers.Call (Made_number 0) ∷ answers.Call (Was_refused refused) ∷ [];
        end = having (Own key) (Own value) of_valued nothing (Ended (Reply_refused refused));
        drives = of_drives (answers.Call (Was_refused refused) ∷ []) s (having (Own key) (Own value) of_valued nothing (Ended (Reply_refused refused))) (
          s,
          having (Own key) (Own value) of_valued nothing (Pairing take_place),
          driven eq hash (stands_at of_valued nothing (Pairing take_place)) (Own key) (Some (Own value)) (MakePairOf (number_of old)) wants_pair
              (Was_refused refused) tt tt s s (having (Own key) (Own value) of_valued nothing (Pairing take_place)) (inl (cause, (refl, refl))) refl,
          (refl, refl),
        );
        replied = refl;
        value = refl;
      }

      -- it is stored in the arena, and put there
      abbrev of_logged : State → Running K V (Unit {0})
      of_logged state = having (Own key) (Logged (length s.pairs)) of_valued (with_pair nothing take_place (length s.pairs)) state

      abbrev putting : State
      putting = Putting (record { write = at_place old; pair = length s.pairs })

      ends_so : written (at_place old) (length s.pairs) ≡ Ended (Replaced (number_of old) (length s.pairs))
      ends_so = ap (λ b. cond b (Counting (claimed_by (at_place old) (length s.pairs))) (Ended (Replaced (number_of old) (length s.pairs)))) some

      replaced : length s.pairs < MAX_LOG_LEN → (first : ℕ) → key_from (number_of old) (slice_get s.pairs (number_of old)) ≡ Some first
          → word_at s.words (slot_of place) ≡ old → IsReplied eq hash s (at_hand (bare (Pairing take_place)) key (Some value))
          (Replaced (number_of old) (length s.pairs)) None (storing s place (pairs.Keyed first value))
      replaced few first from stands = record {
        answers = answers.Call (Made_number 0) ∷ answers.Call (Made_number (length s.pairs)) ∷ answers.Call Exchanged ∷ [];
        end = of_logged (Ended (Replaced (number_of old) (length s.pairs)));
        drives = of_drives (answers.Call (Made_number (length s.pairs)) ∷ answers.Call Exchanged ∷ []) then
            (of_logged (Ended (Replaced (number_of old) (length s.pairs)))) (
              logged,
              having (Own key) (Logged (length s.pairs)) of_valued nothing (Pairing take_place),
              driven eq hash (stands_at of_valued nothing (Pairing take_place)) (Own key) (Some (Own value)) (MakePairOf (number_of old)) wants_pair
                  (Made_number (length s.pairs)) tt tt s logged (having (Own key) (Logged (length s.pairs)) of_valued nothing (Pairing take_place))
                  (inr (inr (first, from, (Own value, refl, refl, few, refl, refl)))) refl,
              subst (λ grew. Drives eq hash (answers.Call Exchanged ∷ []) logged
                  (under_way (goes_on grew (length s.pairs)) (Own key) (Some (Logged (length s.pairs)))) then
                  (of_logged (Ended (Replaced (number_of old) (length s.pairs))))) (sym grows_pair) (
                    then,
                    of_logged putting,
                    record {
                      asked = tt;
                      fit = tt;
                      performs =
                          (Exchanged, refl, (exchange_made logged (slot_of place) old (live_word (length s.pairs)) stands, refl));
                      same = refl;
                    },
                    (refl, ap of_logged (sym ends_so)),
                  ),
            );
        replied = refl;
        value = refl;
      }
        where
          logged : StoreState K V S
          logged = logging eq hash s key value hashed place (bare (Pairing take_place)) (pairs.Keyed first value)

          then : StoreState K V S
          then = storing s place (pairs.Keyed first value)

    pub replacement_written : (old : ℕ) → old ≢ 0 → word_at s.words (slot_of place) ≡ old → (reply : Reply) (left : Option V) (s' : StoreState K V S)
        → IsWritten s hashed (at_place old) key value reply left s'
        → IsReplied eq hash s (at_hand (bare (Pairing (Replace (at_place old)))) key (Some value)) reply left s'
    replacement_written old some stands (Inserted n) left s' (empty, stored, is) = absurd (some empty)
    replacement_written old some stands (Replaced gone n) left s' (_, stored, gone_is, (first, from, is)) =
        subst (IsReplied eq hash s (at_hand (bare (Pairing (Replace (at_place old)))) key (Some value)) (Replaced gone n) left) (sym is)
        (subst (λ l. IsReplied eq hash s (at_hand (bare (Pairing (Replace (at_place old)))) key (Some value)) (Replaced gone n) l
        (storing s place (pairs.Keyed first value))) (sym stored.left_is)
        (subst (λ z. IsReplied eq hash s (at_hand (bare (Pairing (Replace (at_place old)))) key (Some value)) (Replaced gone z) None
        (storing s place (pairs.Keyed first value))) (sym stored.number)
        (subst (λ z. IsReplied eq hash s (at_hand (bare (Pairing (Replace (at_place old)))) key (Some value)) (Replaced z (length s.pairs)) None
        (storing s place (pairs.Keyed first value))) (sym gone_is) (replaced old (ne_eqb old 0 some) stored.few first from stands))))
    replacement_written old some stands (Reply_refused refused) left s' (cause, left_is, is) =
        subst (IsReplied eq hash s (at_hand (bare (Pairing (Replace (at_place old)))) key (Some value)) (Reply_refused refused) left) (sym is)
        (subst (λ l. IsReplied eq hash s (at_hand (bare (Pairing (Replace (at_place old)))) key (Some value)) (Reply_refused refused) l s)
        (sym left_is) (of_refused old (ne_eqb old 0 some) refused cause))
    replacement_written old some stands reply left s' wrote = absurd wrote

  -- a pair that is to be removed is deleted
  abbrev pub removal_of : ℕ → Removal
  removal_of word = record { place = place; word = word }

  buried : (word : ℕ) → word_at s.words (slot_of place) ≡ word
      → IsReplied eq hash s (at_hand (after (bare (Showing (removal_of word))) (Op told.Remove)) key None) (Removed (number_of word)) None
      (burying s (removal_of word))
  buried word stands = record {
    answers = answers.Call Exchanged ∷ answers.Call Ok_done ∷ [];
    end = at_hand (record (after (bare (Showing (removal_of word))) (Op told.Remove)) { state = Ended (Removed (number_of word)) }) key None;
    drives = (
      record s { words = put s.words (slot_of place) (grave_word word) },
      at_hand (after (bare (Showing (removal_of word))) (Op told.Remove)) key None,
      record { asked = tt; fit = tt; performs = (Exchanged, refl, (exchange_made s (slot_of place) word (grave_word word) stands, refl)); same = refl },
      (
        burying s (removal_of word),
        at_hand (after (after (bare (Showing (removal_of word))) (Op told.Remove)) Exchanged) key None,
        record { asked = tt; fit = tt; performs = (Ok_done, refl, (refl, (0, refl), refl)); same = refl },
        (refl, refl),
      ),
    );
    replied = refl;
    value = refl;
  }

  -- it ends at once with the result of its closure
  ended : (m : Machine) (reply : Reply) (s' : StoreState K V S) → s' ≡ s → m.state ≡ Ended reply → IsReplied eq hash s (at_hand m key None) reply None s'
  ended m reply s' is at_end =
      subst (λ (x : StoreState K V S). IsReplied eq hash s (at_hand m key None) reply None x) (sym is)
      (record {
        answers = [];
        end = at_hand m key None;
        drives = (refl, refl);
        replied = ap
            (λ (state : State). asks.Call (call_asks m.made m.hash state)) (sym at_end);
        value = refl;
      })

  module _ {T : Type 0} where
    -- A call has replied with this result after its closure was called with what the call found,
    -- and returned this operation.
    pub record Operated (shows : Machine) (operation : Operation V T) (result : Result (Computed ℕ T) Refused) (s' : StoreState K V S) : Type 0 where
      pub reply : Reply
      pub left : Option V
      pub replied : IsReplied eq hash s (at_hand (after shows (Op (told_by operation))) key (value_by operation)) reply left s'
      pub computed : IsComputed reply (ended_by operation) result

    -- if it was called with `None`
    pub none_operated : word_at s.words (slot_of place) ≡ 0
        → (operation : Operation V T) (result : Result (Computed ℕ T) Refused) (s' : StoreState K V S)
        → IsOperated s hashed (at_place 0) key operation result s' → Operated (bare (Offering (At place))) operation result s'
    none_operated stands (ops.Insert v) result s'
        (reply, left, wrote, is) = record { reply = reply; left = left; replied = fill_written v stands reply left s' wrote; computed = is }
    none_operated stands ops.Remove result s'
        (inl (none, is, same)) = record {
          reply = Reply_refused RemoveNothing;
          left = None;
          replied = ended (bare (Ended (Reply_refused RemoveNothing)))
              (Reply_refused RemoveNothing) s' same refl;
          computed = is;
        }
    none_operated stands ops.Remove result s' (inr (some, is, same)) = absurd (some refl)
    none_operated stands (ops.Abort t) result s'
        (is, same) = record { reply = Aborted 0; left = None; replied = ended (bare (Ended (Aborted 0))) (Aborted 0) s' same refl; computed = (t, refl, is) }

    -- or a pair
    pub pair_operated : (word : ℕ) → word ≢ 0 → word_at s.words (slot_of place) ≡ word
        → (operation : Operation V T) (result : Result (Computed ℕ T) Refused) (s' : StoreState K V S)
        → IsOperated s hashed (at_place word) key operation result s' → Operated (bare (Showing (removal_of word))) operation result s'
    pair_operated word some stands (ops.Insert v) result s'
        (reply, left, wrote, is) = record { reply = reply; left = left; replied = replacement_written v word some stands reply left s' wrote; computed = is }
    pair_operated word some stands ops.Remove result s' (inl (none, is, same)) = absurd (some none)
    pair_operated word some stands ops.Remove result s' (inr (_, is, same)) = record {
      reply = Removed (number_of word);
      left = None;
      replied = subst (λ (x : StoreState K V S).
          IsReplied eq hash s (at_hand (after (bare (Showing (removal_of word))) (Op told.Remove)) key None) (Removed (number_of word)) None x)
          (sym same) (buried word stands);
      computed = is;
    }
    pair_operated word some stands (ops.Abort t) result s'
        (is, same) = record { reply = Aborted 0; left = None; replied = ended (bare (Ended (Aborted 0))) (Aborted 0) s' same refl; computed = (t, refl, is) }

    module _ (said : Option (Stored K V) → Operation V T → Type 0) (operation : Operation V T) (result : Result (Computed ℕ T) Refused)
        (s' : StoreState K V S) where
      abbrev Computes : Option ℕ → Type 0
      Computes shown = IsComputedFrom eq hash key said s (started Compute hashed mode initial None) shown result s'

      -- so the compute is made if its search of the root found an empty place
      pub none_computed : IsRootHit (eq key) s hashed (turns.Empty place) → word_at s.words (slot_of place) ≡ 0 → said None operation
          → IsOperated s hashed (at_place 0) key operation result s' → Computes None
      none_computed root stands answered operated =
          let came = root.sees (started Compute hashed mode initial None) in
          let does = none_operated stands operation result s' operated in
          record {
            loads = came.0;
            shows = bare (Offering (At place));
            comes = came.1;
            held = None;
            asked = refl;
            logged = tt;
            shown_is = refl;
            operation = operation;
            answered = answered;
            reply = does.reply;
            left = does.left;
            replied = does.replied;
            computed = does.computed;
          }

      -- or a pair
      pub pair_computed : (word : ℕ) → kind_of word ≡ kinds.Live → IsRootHit (eq key) s hashed (turns.Here place word) → (p : Stored K V)
          → p.number ≡ number_of word → pair_of s (number_of word) ≡ Some p → said (Some p) operation
          → IsOperated s hashed (at_place word) key operation result s' → Computes (Some (number_of word))
      pair_computed word live root p number logged answered operated =
          let begun : Machine = started Compute hashed mode initial None in
          let came = root.sees begun in
          let does = pair_operated word (live_some word live) root.stands operation result s' operated in
          record {
            loads = came.0;
            shows = bare (Showing (removal_of word));
            comes = subst (λ (kind : Kind). Comes (eq key) s begun came.0 (bare (computes kind nothing place word))) live came.1;
            held = Some p;
            asked = ap (λ n. ShowPair n) (sym number);
            logged = subst (λ n. pair_of s n ≡ Some p) (sym number) logged;
            shown_is = ap (λ n. Some n) (sym number);
            operation = operation;
            answered = answered;
            reply = does.reply;
            left = does.left;
            replied = does.replied;
            computed = does.computed;
          }
