use Rattle.bng_shard.specs.declared.body.Body.{Body}
use Rattle.std.proofs.Common.{◌≡◌, ◌≢◌, ◌≤◌, ◌<◌, ◌-◌, ◌^◌, ◌==◌, ◌∷◌, [], ℕ, ap, sym, subst, refl, ◌∙◌, arith, length, length-append, true, false, List}
use Rattle.std.specs.Prelude.{option_to_list}
use Rattle.std.proofs.lemmas.Bool.Decides.{nat_tests}
use Rattle.bng_base.specs.Batches.{Batch}
use Rattle.bng_base.specs.declared.item.Entry.{Entry}
use Rattle.bng_base.specs.declared.item.OutRecord.{OutRecord}
use Rattle.bng_engine.specs.Books.{BooksRise}
use Rattle.bng_engine.specs.Views.{ShardView}
use Rattle.bng_shard.specs.Fits.{begun_in, owed, Fits, shown_of}
use Rattle.bng_steps.specs.Protocol.{ShardState, entry_with, terms_of}
use Rattle.bng_shard.specs.Handling.{HandlesAs, IsUnused}
use Rattle.bng_shard.specs.Room.{is_tick, is_end, has_tick, has_end}
use Rattle.bng_steps.specs.TermRows.{rows_in, whole}
use Rattle.bng_steps.specs.Sums.{AreLow, Rises}
use Rattle.bng_engine.specs.Terms.{Key}
use Rattle.bng_steps.proofs.TermLaws.{terms_there}
use Rattle.bng_base.specs.declared.address.Ip4.{Ip4}
use Rattle.bng_base.specs.declared.item.Claim.TheVariants.{Claimed}
use Rattle.std.specs.List.{AllByRecursion}
use Rattle.bng_shard.proofs.AskedPool.{claimed_within}
use Rattle.bng_shard.proofs.Answered.{answered_at}
use Rattle.bng_shard.proofs.KeyLaws.{are_tied, fit_rows, keys_of_rows, keys_there, keys_unused, news_numbered, rows_apart, rows_numbered, rows_unused}
use Rattle.bng_shard.proofs.Stepping.{begun_more, few_answers, fit_after, handles_as, moved_begun, moved_holds, moved_placed, owed_more, slice_after, view}
use Rattle.bng_shard.proofs.shard.Shard.step_with.Goals as goal

-- a test that failed says that there are some
some_left : (n : ℕ) → (n == 0) ≡ false → 0 < n
some_left n e = grind (arith, nat_tests, e)

pub hear-fate-requires-clause-asked : goal.hear-fate-requires-clause-asked
hear-fate-requires-clause-asked c =
    let a : Body = c.deref_mut-body.result.now in
    let was : Fits c.deref_mut-body.result.now = subst Fits (sym c.deref_mut-body.ensures.value) c.self.invariant in
    let seen = ap shown_of c.deref_mut-body.ensures.value ∙ c.self.view_is in
    answered_at a was (subst (λ (v : ShardView ShardState Entry). 0 < v.room) (sym seen) c.requires.room) c.args.self.now seen c.args.item.now c.args.claim c.requires.answered

pub hear-fate-requires-clause-begins : goal.hear-fate-requires-clause-begins
hear-fate-requires-clause-begins c x is =
    let a : Body = c.deref_mut-body.result.now in
    let was : Fits c.deref_mut-body.result.now = subst Fits (sym c.deref_mut-body.ensures.value) c.self.invariant in
    let seen = ap shown_of c.deref_mut-body.ensures.value ∙ c.self.view_is in
    let some = some_left a.left (claimed_within a.rules a.served c.args.item.now (a.left == 0) c.args.claim (answered_at a was (subst (λ (v : ShardView ShardState Entry). 0 < v.room) (sym seen) c.requires.room) c.args.self.now seen c.args.item.now c.args.claim c.requires.answered) x is) in
    let numbers = was.numbers some in
    let room = ap (λ (v : ShardView ShardState Entry). v.room) seen in
    let unused = subst (λ (v : ShardView ShardState Entry). IsUnused x.0 (terms_of v.state)) (sym seen) (c.requires.unused x is) in
    record {
      room = omega (arith, was.terms_room, room, c.requires.room);
      few = omega (arith, some, numbers);
      numbered = was.numbered;
      numbered_news = was.numbered_news;
      free = λ unique. rows_unused x a.terms.rows unused;
      tied = was.tied;
    }

pub hear-fate-requires-clause-answers_room : goal.hear-fate-requires-clause-answers_room
hear-fate-requires-clause-answers_room c =
    let was : Fits c.deref_mut-body.result.now = subst Fits (sym c.deref_mut-body.ensures.value) c.self.invariant in
    let seen = ap shown_of c.deref_mut-body.ensures.value ∙ c.self.view_is in
    let room = ap (λ (v : ShardView ShardState Entry). v.room) seen in
    omega (arith, was.changed_room, room, c.requires.room)

pub left_after-body-requires : goal.left_after-body-requires
left_after-body-requires c =
    let a : Body = c.deref_mut-body.result.now in
    let was : Fits c.deref_mut-body.result.now = subst Fits (sym c.deref_mut-body.ensures.value) c.self.invariant in
    let seen = ap shown_of c.deref_mut-body.ensures.value ∙ c.self.view_is in
    record { left = λ x is. some_left a.left (claimed_within a.rules a.served c.args.item.now (a.left == 0) c.args.claim (answered_at a was (subst (λ (v : ShardView ShardState Entry). 0 < v.room) (sym seen) c.requires.room) c.args.self.now seen c.args.item.now c.args.claim c.requires.answered) x is) }

pub book-requires-clause-low : goal.book-requires-clause-low
book-requires-clause-low c =
    let seen = ap shown_of c.deref_mut-body.ensures.value ∙ c.self.view_is in
    subst (λ (v : ShardView ShardState Entry). AreLow (2 ^ 63) v.books) (sym seen) c.requires.low_books

pub invariant_of-self : goal.invariant_of-self
invariant_of-self c =
    let a : Body = c.deref_mut-body.result.now in
    let was : Fits c.deref_mut-body.result.now = subst Fits (sym c.deref_mut-body.ensures.value) c.self.invariant in
    let seen = ap shown_of c.deref_mut-body.ensures.value ∙ c.self.view_is in
    let claim = c.args.claim in
    let e = entry_with claim c.args.seat c.args.place c.args.now c.args.item.now in
    let s = whole a.served a.terms in
    let s' = whole c.hear-fate.new.served c.hear-fate.new.terms in
    let limited = a.left == 0 in
    let outs = a.outs.items in
    let outs' = c.hear-fate.new.outs.items in
    let fate = c.hear-fate.result in
    let does = c.hear-fate.ensures.does in
    let items = ap (λ (b : Batch Entry). b.items) c.push_entry.ensures in
    let room = ap (λ (v : ShardView ShardState Entry). v.room) seen in
    let once = subst (λ (v : ShardView ShardState Entry). (is_tick e.item.kind ≡ true → has_tick v.journal ≡ false) × (is_end e.item.kind ≡ true → has_end v.journal ≡ false)) (sym seen) (c.requires.once.tick, c.requires.once.end) in
    let spent = owed_more a.journal.items e once.0 once.1 in
    let free : (x : Ip4) → claim ≡ Claimed x → AllByRecursion (λ (k : Key). k.address ≢ x) (keys_there s.terms) =
    λ x is. keys_unused x (terms_there s) (subst (λ (v : ShardView ShardState Entry). IsUnused x.0 (terms_of v.state)) (sym seen) (c.requires.unused x is)) in
    let keys = fit_after a.rules s s' outs outs' e limited fate does (fit_rows a.served a.terms was.numbered was.numbered_news was.apart) free in
    let own = c.shard.ensures.numbers in
    let ties = moved_holds a.rules s s' outs outs' e limited fate does own (are_tied a.served a.terms own c.are_rising.ensures was.numbered was.tied) in
    let begun = moved_begun a.rules s s' outs outs' e limited fate does in
    let (answer, is_answer, pushed) = c.hear-fate.ensures.answered does.deed.entry (ap (λ (x : Entry). x.item) does.entry) in
    let left = c.left_after-body.ensures in
    record {
      numbered = rows_numbered c.hear-fate.new.served c.hear-fate.new.terms keys;
      numbered_news = news_numbered c.hear-fate.new.served c.hear-fate.new.terms keys;
      apart = rows_apart c.hear-fate.new.served c.hear-fate.new.terms keys;
      tied = ties.tied;
      left = λ some. let counted = was.left (omega (arith, some)) in omega (arith, left, counted, begun_more a.journal.items e, ap begun_in items);
      numbers = λ some. let numbers = was.numbers (omega (arith, some, left)) in omega (arith, numbers, begun, left);
      placed = moved_placed a.rules s s' outs outs' e limited fate does was.placed;
      few_pools = was.few_pools;
      auth = was.auth;
      offers = was.offers;
      few_profiles = was.few_profiles;
      named = c.book.ensures.names ∙ was.named;
      booked = c.book.ensures.rises.count ∙ was.booked;
      journal_room = omega (arith, was.journal_room, ap length items, length-append a.journal.items (e ∷ []), room, c.requires.room, ap (λ (b : Batch Entry). b.room) c.push_entry.ensures);
      outs_room = λ some. omega (arith, was.outs_room (omega (arith, some)), ap length does.outs_are, length-append outs does.deed.outs, does.few, ap owed items, spent, c.hear-fate.ensures.capacity);
      terms_room = omega (arith, was.terms_room, c.hear-fate.ensures.sums.room);
      changed_room = omega (arith, was.changed_room, ap length pushed, length-append a.changed.items (option_to_list answer), few_answers answer, c.hear-fate.ensures.answers_capacity, room, c.requires.room);
    }

pub returns : goal.returns
returns c =
    let a : Body = c.deref_mut-body.result.now in
    let was : Fits c.deref_mut-body.result.now = subst Fits (sym c.deref_mut-body.ensures.value) c.self.invariant in
    let seen = ap shown_of c.deref_mut-body.ensures.value ∙ c.self.view_is in
    let claim = c.args.claim in
    let e = entry_with claim c.args.seat c.args.place c.args.now c.args.item.now in
    let s = whole a.served a.terms in
    let s' = whole c.hear-fate.new.served c.hear-fate.new.terms in
    let limited = a.left == 0 in
    let outs = a.outs.items in
    let outs' = c.hear-fate.new.outs.items in
    let fate = c.hear-fate.result in
    let does = c.hear-fate.ensures.does in
    let room = ap (λ (v : ShardView ShardState Entry). v.room) seen in
    let rows = rows_in a.terms.rows in
    let rows' = rows_in c.hear-fate.new.terms.rows in
    let short : length e.item.frame.payload ≤ 4096 = omega (arith, c.requires.whole, c.payload.ensures.fits) in
    let (answer, is_answer, pushed) = c.hear-fate.ensures.answered does.deed.entry (ap (λ (x : Entry). x.item) does.entry) in
    let next : ShardView ShardState Entry = view a.rules s' c.hear-fate.new.answers.items rows' c.book.new.profiles.books a.allowance c.push_entry.new.self.items outs' (a.room - 1) in
    let sends = slice_after outs does.deed.outs c.as_slice.result.now _ (ap length c.as_slice-before.ensures) (c.as_slice.ensures ∙ does.outs_are) in
    let booked = subst (λ (os : List OutRecord). BooksRise a.profiles.books os c.book.new.profiles.books) sends c.book.ensures.rises in
    let tallied = subst (λ (os : List OutRecord). Rises c.args.ledger.now os c.tally.new.tally) sends c.tally.ensures in
    subst (λ (v : ShardView ShardState Entry). HandlesAs v next e fate c.args.ledger.now c.tally.new.tally) seen
    (handles_as a.rules s s' outs outs' e limited fate does a.changed.items c.hear-fate.new.answers.items answer is_answer pushed rows rows' a.profiles.books c.book.new.profiles.books a.allowance a.left a.room a.journal.items c.push_entry.new.self.items (was.left (omega (arith, room, c.requires.room))) refl (keys_of_rows c.hear-fate.new.terms.rows) c.hear-fate.ensures.sums.sums
    c.args.ledger.now c.tally.new.tally (ap (λ (b : Batch Entry). b.items) c.push_entry.ensures) short booked tallied)
