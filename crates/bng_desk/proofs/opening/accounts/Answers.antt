use Rattle.std.proofs.Common.{◌≡◌, ◌++◌, ◌+◌, List, None, length, length-append, take, drop, sym, ap, subst, arith}
use Rattle.std.proofs.lemmas.List.{take_all}
use Rattle.bng_acct.specs.declared.held.Held.{Held}
use Rattle.bng_acct.specs.Roster.{of_term}
use Rattle.bng_base.specs.declared.circuit.TermId.{TermId}
use Rattle.bng_base.specs.declared.item.Entry.{Entry}
use Rattle.bng_engine.specs.Terms.{Key}
use Rattle.bng_engine.specs.Views.{ShardView}
use Rattle.bng_steps.specs.Lasting.{AreTenures}
use Rattle.bng_steps.specs.Protocol.{ShardState}
use Rattle.bng_desk.specs.Model.{keys_in}
use Rattle.bng_desk.specs.Round.{terms_in}
use Rattle.bng_desk.specs.Taking.{Accounts, BooksStarts, HasRows, no_stops, states_of}
use Rattle.bng_desk.proofs.Beginning.{MayBegin, all_begun, all_billed, all_may, known_begun, may_begin}
use Rattle.bng_desk.proofs.Booking.{starts_more, starts_none, starts_wider}
use Rattle.bng_desk.proofs.ShardKeys.{keys_next, keys_of, keys_split, shard_at, tenures_among}
use Rattle.bng_desk.proofs.opening.accounts.Goals as goal

pub loop-shard-init : goal.loop-shard-init
loop-shard-init c = starts_none (terms_in (states_of c.args.shards.now)) c.args.now c.args.rules.acct.wall (record { lines = c.args.lines.items; stopped = no_stops; billing = c.in-Ok.billing; reports = c.args.reports.items })

pub start_all-requires : goal.start_all-requires
start_all-requires c =
    let shards = c.args.shards.now in
    let i = c.loop-shard.shard-index in
    let v = c.shard-item.result in
    let done = keys_in (take i shards) in
    let here = keys_of v in
    let rest = keys_in (drop (i + 1) shards) in
    let whole : keys_in shards ≡ done ++ (here ++ rest) = keys_split shards i v (shard_at shards i v c.shard-item.is c.loop-shard-test.true) in
    let first : Accounts = record { lines = c.args.lines.items; stopped = no_stops; billing = c.in-Ok.billing; reports = c.args.reports.items } in
    let all = all_may c.args.rules (keys_in shards) c.in-Ok.billing c.in-Ok.ensures c.requires.room c.requires.apart in
    let may = may_begin (terms_in (states_of shards)) c.args.now c.args.rules.acct.wall done here rest first c.loop-shard.accounts (subst (λ (ks : List Key). MayBegin ks c.in-Ok.billing) whole all) c.loop-shard.invariant in
    record {
      few = omega (arith, c.requires.most, c.requires.room, ap (λ (ks : List Key). length ks) whole, length-append done (here ++ rest), length-append here rest);
      room = may.room;
      fresh = may.new;
      apart = may.apart;
      rows = subst HasRows (sym c.shard-item.is) (c.requires.rows i v c.loop-shard-test.true);
      terms = subst (λ (w : ShardView ShardState Entry). AreTenures c.args.now w.state.slots) (sym c.shard-item.is) (c.requires.terms i v c.loop-shard-test.true);
    }

pub loop-shard-preserved : goal.loop-shard-preserved
loop-shard-preserved c =
    let shards = c.args.shards.now in
    let i = c.loop-shard.shard-index in
    let v = c.shard-item.result in
    let terms = terms_in (states_of shards) in
    let now = c.args.now in
    let wall = c.args.rules.acct.wall in
    let first : Accounts = record { lines = c.args.lines.items; stopped = no_stops; billing = c.in-Ok.billing; reports = c.args.reports.items } in
    let at = shard_at shards i v c.shard-item.is c.loop-shard-test.true in
    let here = starts_wider v.state.slots.terms terms now wall (keys_of v) c.loop-shard.accounts c.start_all.new.accounts (tenures_among shards i v at) c.start_all.ensures in
    subst (λ (ks : List Key). BooksStarts terms now wall ks first c.start_all.new.accounts) (sym (keys_next shards i v at))
    (starts_more terms now wall (keys_in (take i shards)) (keys_of v) first c.loop-shard.accounts c.start_all.new.accounts c.loop-shard.invariant here)

pub returns : goal.returns
returns c =
    let shards = c.args.shards.now in
    let terms = terms_in (states_of shards) in
    let now = c.args.now in
    let wall = c.args.rules.acct.wall in
    let keys = keys_in shards in
    let first : Accounts = record { lines = c.args.lines.items; stopped = no_stops; billing = c.in-Ok.billing; reports = c.args.reports.items } in
    let all : take c.loop-shard.shard-index shards ≡ shards = take_all c.loop-shard.shard-index shards (omega arith) in
    let booked = subst (λ vs. BooksStarts terms now wall (keys_in vs) first c.loop-shard.accounts) all c.loop-shard.invariant in
    let may = all_may c.args.rules keys c.in-Ok.billing c.in-Ok.ensures c.requires.room c.requires.apart in
    let none : (t : TermId) → of_term t c.in-Ok.billing.spool.held ≡ None = λ t. ap (λ (hs : List Held). of_term t hs) c.in-Ok.ensures.spool.none_held in
    record {
      new_billing = c.in-Ok.billing;
      is_new = c.in-Ok.ensures;
      booked = booked;
      billed = all_billed terms now wall keys first c.loop-shard.accounts may booked;
      known = known_begun keys c.in-Ok.billing c.loop-shard.accounts.billing (all_begun terms now wall keys first c.loop-shard.accounts may booked) none;
    }
