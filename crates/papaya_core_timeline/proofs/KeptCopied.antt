-- After each answered ask of a copy the words obey the law of exchanges.
use Rattle.std.proofs.Common.{◌≡◌, ℕ, ◌<◌, Bool, List, ◌++◌, length, Option, Some, inl, sym, ◌∙◌, ap, subst, arith, ◌≤◌}
use Rattle.papaya_call.specs.declared.ask.At.{At}
use Rattle.papaya_call.specs.declared.ask.At.TheVariants.{Root}
use Rattle.papaya_call.specs.declared.ask.Ask.TheVariants.{Exchange as Ask_exchange}
use Rattle.papaya_call.specs.declared.copy_ask.CopyAsk.{CopyAsk}
use Rattle.papaya_words_law.specs.Allows.{AllAllowed}
use Rattle.papaya_words_law.specs.Code.{Coding, IsHashed}
use Rattle.papaya_words_law.specs.Exchange.{Exchange, Setting, run, start}
use Rattle.papaya_words_law.specs.Grows.{Comes}
use Rattle.papaya_call_law.specs.TrueAnswers.{word_of}
use Rattle.papaya_call.specs.declared.chain.ask.Ask.TheVariants as asks
use Rattle.papaya_call.specs.declared.chain.ask.Answer.{Answer}
use Rattle.papaya_call.specs.ChainMachine.{ask_of, follows_of, kind_of_ask}
use Rattle.papaya_call_law.specs.Goes.{link_in}
use Rattle.papaya_call_law.specs.ChainRelies.{Relies}
use Rattle.papaya_call_law.proofs.Names.{copies_guarantee_hint, copies_there}
use Rattle.papaya_call.specs.declared.copy.link.Link.TheVariants.{Linking}
use Rattle.papaya_core_store.specs.declared.pairs.Running.{Running}
use Rattle.papaya_core_timeline.specs.Kept.{CallTrace, IsMade, IsMadeFor}
use Rattle.papaya_core_store.specs.CopyAsks.{PerformsCopy}
use Rattle.papaya_core_store.specs.Performs.{own_key}
use Rattle.papaya_core_store.specs.Store.{StoreState, Stored, pair_of}
use Rattle.papaya_core_store.specs.Tables.{hint_at, word_at}
use Rattle.papaya_core_timeline.proofs.FollowedTables.{machine_follows}
use Rattle.papaya_core_timeline.proofs.KeptAnswer.{IsAnswered, changed, same_value}
use Rattle.papaya_core_timeline.proofs.KeptTables.{table_low}
use Rattle.papaya_core_timeline.proofs.KeptWritten.{asked_copy, on_there}
use Rattle.papaya_call_law.proofs.LinkMade.{machine_links}
use Rattle.papaya_core_timeline.proofs.CopyAnswers.{IsAsker, copied_left, left_logged}
use Rattle.papaya_core_store.specs.declared.pairs.Pair.{Pair}
use Rattle.papaya_core_store.specs.Pairs.{key_in, value_in}
use Rattle.papaya_words.specs.declared.limits.TheConstants.{MAX_LOG_LEN}
use Rattle.papaya_call_law.specs.Copier.{AreThere}
use Rattle.papaya_call_law.specs.TrueAnswers.{IsOneOf}
pub use Rattle.papaya_core_timeline.proofs.CopyAnswers.{Suits}
use Rattle.papaya_words_law.specs.Hints.{IsHint}

module _ {Q K V S A : Type 0} (eq : K → K → Bool) (hashes : S → K → ℕ) (g : Setting Q (Stored K V)) (c : Coding Q (Stored K V))
    (store : StoreState K V S) (r : Running K V A) (es : List (Exchange (Stored K V))) (call_trace : CallTrace K V) (own : Option K)
    (hashed : IsHashed g c) (key : Q)
    (split : call_trace.begun ++ call_trace.since ≡ es) (may : AllAllowed g start (call_trace.begun ++ call_trace.since))
    (relies : Relies g c call_trace.begun call_trace.since key r.machine call_trace.loaded)
    (coded : (at : At) → word_of g c (run es start) at ≡ word_at store.words at)
    (there : (t : ℕ) → 0 < t → Comes (run es start) t → IsMade store t)
    (hints : (t x : ℕ) → IsHint g c (run es start) t x (hint_at store.words t x))
    (last : (p : Stored K V) → call_trace.loaded.call.last ≡ Some p → pair_of store p.number ≡ Some p)
    (carried : (p : Stored K V) → call_trace.loaded.kept ≡ Some p → pair_of store p.number ≡ Some p)
    (opens : (t : ℕ) → ask_of r.machine ≡ asks.Call (Ask_exchange Root 0 t) → IsMade store t)
    (links : (behind t chunks : ℕ) → link_in r.machine.phase ≡ Some (Linking behind t chunks) → IsMadeFor store t chunks)
    (owns : own_key store r ≡ own)
    (suits : Suits eq hashes g c store) where
  -- the effect of an answer, given the ask
  abbrev Leaves : CopyAsk → Answer → StoreState K V S → Running K V A → Type 0
  Leaves ask a store' later = IsAnswered g c store r es call_trace own key (asks.Copy ask) a store' later

  -- the call asks as a copy may
  asker : (ask : CopyAsk) → ask_of r.machine ≡ asks.Copy ask
      → IsAsker g c store es call_trace.loaded coded there (kind_of_ask r.machine) (follows_of r.machine) ask
  asker ask e = record {
    names = subst (λ l. AreThere g c (run l start) call_trace.loaded.call.last call_trace.loaded.kept ask) split
        (copies_there g c hashed call_trace.begun call_trace.since may key r.machine call_trace.loaded relies ask e);
    may = λ at old new is stands. asked_copy g c store r es call_trace own hashed key split may relies coded there opens links owns suits.sizes
        suits.chunks at old new (e ∙ ap asks.Copy is) stands;
    low = λ slots limit chunks is.
        let on = machine_follows g c call_trace.begun call_trace.since key r.machine call_trace.loaded relies slots limit chunks (e ∙ ap asks.Copy is) in
        let words = on_there g c store r es call_trace own hashed key split may relies coded there opens links owns suits.sizes suits.chunks
        (follows_of r.machine) on in
        table_low store.words.tables (follows_of r.machine) words.0 words.1;
    links = λ behind old t is. let linking = machine_links r.machine behind old t (e ∙ ap asks.Copy is) in
        let made = links behind t linking.0 linking.1 in (made.0, made.1);
    reads = λ t x is. hints t x;
    writes = λ t x n is. subst (λ l. IsHint g c (run l start) t x n) split
        (copies_guarantee_hint g c hashed call_trace.begun call_trace.since may key r.machine call_trace.loaded relies t x n (e ∙ ap asks.Copy is));
  }

  -- each ask
  pub answered_copy : (refuse : Bool) (ask : CopyAsk) → ask_of r.machine ≡ asks.Copy ask
      → (a : Answer) (store' : StoreState K V S) (later : Running K V A) → PerformsCopy eq hashes refuse ask store a store' → later ≡ r
      → Leaves ask a store' later
  answered_copy refuse ask e a store' later performs same_call =
      let left = copied_left g c store es call_trace.loaded coded there eq hashes last carried suits (kind_of_ask r.machine) (follows_of r.machine)
      refuse ask (asker ask e) a store' performs in
      subst (Leaves ask a store') (sym same_call) (record {
        made = left.made;
        loaded = left.loaded';
        told = left.told;
        keys = λ at k h. ap (λ l. key_in l at) left.pairs_are ∙ h;
        values = λ at v h. ap (λ l. value_in l at) left.pairs_are ∙ h;
        own_is = ap (λ l. key_in l r.key) left.pairs_are ∙ owns;
        logged = λ n p h. left_logged g c store es call_trace.loaded left n p h;
        longer = let same = ap (λ (l : List (Pair K V)). length l) left.pairs_are in omega (arith, same);
        few = λ h. subst (λ (l : List (Pair K V)). length l ≤ MAX_LOG_LEN) (sym left.pairs_are) h;
        tables_few = left.tables_few;
        grown = left.grown;
        coded = left.coded;
        hints = left.hints;
        there = left.there;
        slots = λ t x p h. inl (left.slots t x p h);
        unchanged = λ none. (
          sym (changed g c store r es call_trace own hashed key relies coded there (asks.Copy ask) e a left.made left.loaded'
              left.told) ∙ none,
          left.slots,
        );
        last = left.last;
        carried = left.carried;
        new = λ q h. inl (subst (λ l. IsOneOf l q) left.same_made h);
        value = inl (same_value g c store r es call_trace own store' (λ at v h. ap (λ l. value_in l at) left.pairs_are ∙ h));
        opens = λ t is which. left.opens t is;
      })
