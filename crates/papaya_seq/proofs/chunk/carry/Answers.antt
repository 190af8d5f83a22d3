use Rattle.std.proofs.Common.{rules, ◌≡◌, ℕ, Some, sym, ◌∙◌, subst}
use Rattle.papaya_words.specs.Word.{pair_of as number_of}
use Rattle.papaya_words.specs.declared.resize_mode.ResizeMode.{ResizeMode}
use Rattle.papaya_call.specs.Search.{first_place}
use Rattle.papaya_call.specs.declared.copy.carry.Carry.TheVariants.{Hashing, Sizing, Looking}
use Rattle.papaya_call.specs.declared.copy.settle.SlotToCopy.{SlotToCopy}
use Rattle.papaya_words_keys.specs.Hashes.{hash_of}
use Rattle.papaya_core_store.specs.Store.{pair_of}
use Rattle.papaya_core_store.specs.Tables.{table_of}
use Rattle.papaya_seq.specs.Copies.{Settles}
use Rattle.papaya_seq.specs.Searches.{IsThere}
use Rattle.papaya_seq.proofs.CopyTurns.{carried, carry_then, hashes, sizes}
use Rattle.papaya_seq.proofs.WalkSteps.{sized_table}
use Rattle.papaya_seq.proofs.chunk.carry.Goals as goal
use Rattle.papaya_seq.proofs.chunk.carry.Goals.{After-size_of}
use Rattle.papaya_seq.proofs.chunk.carry.Given.{Over}

-- the hash of a key
abbrev hash : (g : Over) → g.row.S.Denot → g.row.K.Denot → ℕ
hash g = hash_of g.K.Hash.hash_input g.S.BuildHasher.build_hasher g.S.Hasher.Hasher.write g.S.Hasher.Hasher.finish

-- the pair's key has this hash
hashed : (g : Over) (c : After-size_of g) (mode : ResizeMode) (slot : SlotToCopy)
    → Settles g.K.PartialEq.eq (hash g) mode slot c.args.store.now
    (carried g.K.PartialEq.eq (hash g) mode slot c.args.store.now c.args.marked (Hashing c.args.table)) c.args.store.now
    (carried g.K.PartialEq.eq (hash g) mode slot c.args.store.now c.args.marked (Sizing c.hash-hash.result c.args.table))
hashed g c mode slot =
    let s = c.args.store.now in
    let there : pair_of s (number_of c.args.marked) ≡ Some
    (record { number = c.pair.result; key = c.in-Some.key.now; value = c.in-Some.field-0-1.now }) = search rules in
    hashes g.K.PartialEq.eq (hash g) mode slot s c.args.marked c.args.table c.hash-hash.result
    (record { number = c.pair.result; key = c.in-Some.key.now; value = c.in-Some.field-0-1.now }) there (sym c.hash-hash.ensures.value)
    c.hash-hash.ensures.fits

pub returns-in-Size-clause-carries : goal.returns-in-Size-clause-carries
returns-in-Size-clause-carries g c mode slot =
    let s = c.args.store.now in
    let h = c.hash-hash.result in
    let first = first_place h c.args.table c.in-Size.len c.in-Size.limit in
    carry_then g.K.PartialEq.eq (hash g) mode slot s c.args.marked (Hashing c.args.table) (Sizing h c.args.table) c.find_place.result
    (hashed g (goal.at.returns-in-Size-clause-carries g c).After-size_of mode slot)
    (carry_then g.K.PartialEq.eq (hash g) mode slot s c.args.marked (Sizing h c.args.table) (Looking h first) c.find_place.result
    (sizes g.K.PartialEq.eq (hash g) mode slot s c.args.marked c.args.table h c.in-Size.len c.in-Size.limit (sym c.size_of.ensures ∙ c.in-Size.is))
    (subst (λ at. Settles g.K.PartialEq.eq (hash g) mode slot s (carried g.K.PartialEq.eq (hash g) mode slot s c.args.marked (Looking h at)) s
    (carried g.K.PartialEq.eq (hash g) mode slot s c.args.marked c.find_place.result)) c.first-first.ensures.value
    (c.find_place.ensures.finds mode slot c.args.marked)))

pub returns-in_default-size_of : goal.returns-in_default-size_of
returns-in_default-size_of g c = record {
  carries = λ mode slot. hashed g (goal.at.returns-in_default-size_of g c).After-size_of mode slot;
  empty = λ other at e. absurd (cc e);
}

pub find_place-requires-clause-there : goal.find_place-requires-clause-there
find_place-requires-clause-there g c =
    let s = c.args.store.now in
    let (t, there, long, far, fit) = sized_table s (table_of s.words.tables c.args.table) c.in-Size.len c.in-Size.limit (λ t e. c.requires c.args.table t e)
    (sym c.in-Size.is ∙ c.size_of.ensures) in
    subst (λ at. IsThere s at.table at.len) (sym c.first-first.ensures.value) (t, there, long)
