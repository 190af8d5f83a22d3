use Rattle.std.proofs.Common.{rules, ◌≡◌, ℕ, ◌<◌, Some, length, refl, sym, ◌∙◌, ap, subst}
use Rattle.papaya_call.specs.declared.search.Search.TheVariants.{Reading, Comparing}
use Rattle.papaya_call.specs.declared.search.ProbeStep.TheVariants.{On}
use Rattle.papaya_call.specs.Search.{at_yes, look}
use Rattle.papaya_call.specs.declared.machine.State.TheVariants.{Searching}
use Rattle.papaya_words.specs.Word.{kind_of}
use Rattle.papaya_core_store.specs.Tables.{table_of, word_at}
use Rattle.papaya_seq.specs.Searches.{ContinuesIn, IsMatchedBy, IsThere, SeesFrom, HoldsWord}
use Rattle.papaya_seq.proofs.Searching.{look_in, yes_in, slot_read, matched_look, matched_yes, sees_same, sees_word, stands_look, stands_yes, turn_seen, word_there}
use Rattle.papaya_seq.proofs.search.read_at.Goals as goal
use Rattle.papaya_seq.proofs.search.read_at.Goals.{After-slot-word}
use Rattle.papaya_seq.proofs.search.read_at.Given.{Over}

-- the word at the place
word_is : (g : Over) (c : After-slot-word g) (hash : ℕ)
    → c.slot-word.result ≡ word_there (g.Q.Equivalent.matches c.args.key.now) c.args.store.now hash c.args.at
word_is g c hash =
    let held : table_of c.args.store.now.words.tables c.args.at.table ≡ Some c.in-Some.table.now = search rules in
    slot_read c.args.store.now.words c.args.at.table c.args.at.probe.i c.slot-word.result c.in-Some.table.now held c.slot-word.ensures

pub slot-word-requires : goal.slot-word-requires
slot-word-requires g c =
    let (t, there, long) = c.requires.there in
    let held : table_of c.args.store.now.words.tables c.args.at.table ≡ Some c.in-Some.table.now = search rules in
    let same : t ≡ c.in-Some.table.now = let both : Some t ≡ Some c.in-Some.table.now = sym there ∙ held in cc in
    subst (λ n. c.args.at.probe.i < n) (sym (ap (λ v. length v.slots) (sym same) ∙ long)) c.requires.within.i

pub returns-in-On-Comparing-clause-turn : goal.returns-in-On-Comparing-clause-turn
returns-in-On-Comparing-clause-turn g c hash =
    let matches = g.Q.Equivalent.matches c.args.key.now in
    let store = c.args.store.now in
    let from = Searching (Reading c.args.at) in
    let word : c.slot-word.result ≡ word_there matches store hash c.args.at = word_is g (goal.at.returns-in-On-Comparing-clause-turn g c).After-slot-word hash in
    let seen : c.look-seen.result ≡ On (Comparing c.in-On-Comparing.place c.in-On-Comparing.named) = search rules in
    let compares : look c.args.at (word_there matches store hash c.args.at) ≡ On (Comparing c.in-On-Comparing.place c.in-On-Comparing.named) = sym
    (c.look-seen.ensures.value ∙ ap (look c.args.at) word) ∙ seen in
    turn_seen matches store hash c.args.at from c.hit_of.result c.at_yes.result c.hit_of.ensures
    (subst (SeesFrom matches store hash from)
    (sym (c.at_yes.ensures.value ∙ ap (at_yes (Comparing c.in-On-Comparing.place c.in-On-Comparing.named)) (c.matches-same.ensures ∙ search rules)))
    (sees_same matches store hash c.args.at c.in-On-Comparing.place c.in-On-Comparing.named compares))
    c.at_yes.ensures.seen
    (subst (ContinuesIn (IsThere store)) (sym c.at_yes.ensures.value)
    (yes_in (IsThere store) c.in-On-Comparing.place c.in-On-Comparing.named c.matches-same.result
    (subst (ContinuesIn (IsThere store)) compares
    (look_in (IsThere store) (kind_of (word_there matches store hash c.args.at)) c.args.at (word_there matches store hash c.args.at) c.requires.there))))
    (subst (HoldsWord (λ w. word_at store.words w)) (sym c.at_yes.ensures.value)
    (stands_yes (λ w. word_at store.words w) c.in-On-Comparing.place c.in-On-Comparing.named c.matches-same.result
    (subst (HoldsWord (λ w. word_at store.words w)) compares
    (stands_look (λ w. word_at store.words w) (kind_of (word_there matches store hash c.args.at)) c.args.at
    (word_there matches store hash c.args.at) refl refl))))
    (subst (IsMatchedBy matches store hash) (sym c.at_yes.ensures.value)
    (matched_yes matches store hash c.in-On-Comparing.place c.in-On-Comparing.named c.matches-same.result (c.matches-same.ensures ∙ search rules)))

pub returns-in_default-seen-clause-turn : goal.returns-in_default-seen-clause-turn
returns-in_default-seen-clause-turn g c hash =
    let matches = g.Q.Equivalent.matches c.args.key.now in
    let store = c.args.store.now in
    let word : c.slot-word.result ≡ word_there matches store hash c.args.at = word_is g (goal.at.returns-in_default-seen-clause-turn g c).After-slot-word hash in
    let from = Searching (Reading c.args.at) in
    turn_seen matches store hash c.args.at from c.hit_of-in_default-seen.result c.look-seen.result c.hit_of-in_default-seen.ensures
    (subst (SeesFrom matches store hash from) (sym (c.look-seen.ensures.value ∙ ap (look c.args.at) word))
    (sees_word matches store hash c.args.at))
    c.look-seen.ensures.seen
    (subst (ContinuesIn (IsThere store)) (sym (c.look-seen.ensures.value ∙ ap (look c.args.at) word))
    (look_in (IsThere store) (kind_of (word_there matches store hash c.args.at)) c.args.at (word_there matches store hash c.args.at) c.requires.there))
    (subst (HoldsWord (λ w. word_at store.words w)) (sym (c.look-seen.ensures.value ∙ ap (look c.args.at) word))
    (stands_look (λ w. word_at store.words w) (kind_of (word_there matches store hash c.args.at)) c.args.at
    (word_there matches store hash c.args.at) refl refl))
    (subst (IsMatchedBy matches store hash) (sym (c.look-seen.ensures.value ∙ ap (look c.args.at) word))
    (matched_look matches store hash c.args.at (kind_of (word_there matches store hash c.args.at)) (word_there matches store hash c.args.at)))
