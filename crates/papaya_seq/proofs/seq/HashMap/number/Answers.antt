use Rattle.std.proofs.Common.{◌≡◌, ◌≤◌, length, sym, subst, rules}
use Rattle.papaya_call.specs.declared.ask.At.TheVariants.{Made}
use Rattle.papaya_call.specs.Made.{IsLimit}
use Rattle.papaya_call_law.proofs.AloneSteps.{exchange_done}
use Rattle.papaya_core_store.specs.Store.{StoreState}
use Rattle.papaya_core_store.specs.Tables.{word_at}
use Rattle.papaya_words_keys.specs.Hashes.{hash_of}
use Rattle.papaya_seq.specs.Map.{IsLawfulMap, MapState}
use Rattle.papaya_seq.proofs.Numbering.{numbered_lawful, numbered_store}
use Rattle.papaya_seq.proofs.seq.HashMap.number.Goals as goal
use Rattle.papaya_seq.proofs.seq.HashMap.number.Goals.{After-exchange}
use Rattle.papaya_seq.proofs.seq.HashMap.number.Given.{Over}

-- the count of numbers was written
written : (g : Over) (c : After-exchange g) → c.exchange.new.self ≡ numbered_store c.self.inside.store c.args.made
written g c = (exchange_done _ _ (word_at c.self.inside.store.words Made) c.word-taken.result (sym c.word-taken.ensures) c.exchange.ensures).1

pub invariant_of-self : goal.invariant_of-self
invariant_of-self g c =
    let fits : IsLimit c.args.limit = search rules in
    let each : length c.self.inside.store.pairs ≤ c.args.made = subst (λ (s : MapState _ _ _). length s.store.pairs ≤ c.args.made)
    (sym c.self.view_is) c.requires.each in
    subst (λ (y : StoreState _ _ _). IsLawfulMap g.K.PartialEq.eq
    (hash_of g.K.Hash.hash_input g.S.BuildHasher.build_hasher g.S.Hasher.Hasher.write g.S.Hasher.Hasher.finish y.hasher) y
    (record c.self.inside.mode { limit = c.args.limit }) c.self.inside.initial)
    (sym (written g (goal.at.invariant_of-self g c).After-exchange))
    (numbered_lawful g.K.PartialEq.eq (hash_of g.K.Hash.hash_input g.S.BuildHasher.build_hasher g.S.Hasher.Hasher.write g.S.Hasher.Hasher.finish
    c.self.inside.store.hasher) c.self.inside.store c.self.inside.mode c.self.invariant c.args.limit c.args.made fits c.requires.most each)
