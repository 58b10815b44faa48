-- What a round is opened with: over the shards that a slice has, and from shards that were made ready.
use Rattle.std.proofs.Common.{◌≡◌, ℕ, ◌+◌, ◌*◌, ◌^◌, ◌≤◌, Vec, Global, List, length, sum_by, ap, sym, subst, ◌∙◌, arith}
use Rattle.std.specs.List.{All, AllZip}
use Rattle.std.proofs.lemmas.List.Elements.{length_all_zip}
use Rattle.bng_base.specs.Batches.{Batch}
use Rattle.bng_base.specs.declared.item.Entry.{Entry}
use Rattle.bng_engine.specs.Calls.{Kept, IsReady as IsRoomy}
use Rattle.bng_engine.specs.Quantities.{Octets, in_book}
use Rattle.bng_engine.specs.Terms.{Key}
use Rattle.bng_engine.specs.Views.{ShardView}
use Rattle.bng_steps.specs.declared.rules.Rules.{Rules}
use Rattle.bng_steps.specs.Protocol.{ShardState}
use Rattle.bng_desk.specs.declared.coa.Repeated.{Repeated}
use Rattle.bng_desk.specs.declared.holding.Named.{Named}
use Rattle.bng_desk.specs.declared.lists.Lists.{Lists}
use Rattle.bng_desk.specs.declared.settlement.Works.{Works}
use Rattle.bng_desk.specs.Accounting.{AreBilled, KnowsBegun}
use Rattle.bng_desk.specs.Holding.{IsPrepared}
use Rattle.bng_desk.specs.Interims.{AreWaiting}
use Rattle.bng_desk.specs.Model.{keys_in}
use Rattle.bng_desk.specs.Settlement.{AreBlank, IsReady, KeepsWorks}
use Rattle.bng_desk.specs.Taking.{AllTold, AddsUp, AreInOrder, AreTallied, HasNumbers, HasRows, IsEmpty, KeepsTerms, outs_of_items}
use Rattle.bng_desk.proofs.Awaited.{awaited_held}
use Rattle.bng_desk.proofs.Joining.{HasLow, HasLowBooks, books_kept, low_kept, sessions_kept}
use Rattle.bng_desk.proofs.Readying.{Shards, WorksBy, all_onward, order_kept}
use Rattle.bng_desk.proofs.Returning.{HoldsOwn, held_kept}
use Rattle.bng_desk.proofs.SameTerms.{kept_keys, knows_held, terms_held}
use Rattle.bng_desk.proofs.Tallied.{lines_kept, sum_kept}

-- what a round is opened with, over the shards that a slice has
pub record StandReady (r : Rules) (named : Named) (lists : Lists) (w : Works) (vs : Shards) : Type 0 where
  pub count : length vs ≡ r.shards
  pub order : AreInOrder vs
  pub one_rule : All (WorksBy r) vs
  pub terms : All (KeepsTerms named.moment) vs
  pub held : All (HoldsOwn w.pool.table) vs
  pub low : All (HasLow (2 ^ 62 + 2 ^ 61)) vs
  pub books : All (HasLowBooks (2 ^ 62 + 2 ^ 61)) vs
  pub tallied : AreTallied w.tally vs w.accounts.lines
  pub adds_up : AddsUp w.tally vs w.accounts.stopped
  pub billed : AreBilled (keys_in vs) w.accounts.billing
  pub knows : KnowsBegun vs w.accounts.billing
  pub awaited : AreWaiting named.moment vs w.accounts.reports
  pub few_outs : outs_of_items lists.items.items ≤ 8320 + 320 * length vs
  pub blank : AreBlank (length vs) lists
  pub roomy : All (λ (v : ShardView ShardState Entry). IsRoomy (length lists.items.items) v.allowance v) vs
  pub rows : All HasRows vs
  pub serials : All HasNumbers vs
  pub free : length w.accounts.billing.spool.held + sum_by (λ (v : ShardView ShardState Entry). v.allowance) vs ≤ w.accounts.billing.spool.rules.terms

pub stand_ready : (r : Rules) (named : Named) (lists : Lists) (w : Works) (vs : Shards) → vs ≡ w.shards.items → IsReady r named lists w → IsPrepared (length lists.items.items) w → StandReady r named lists w vs
stand_ready r named lists w vs same ready prepared =
    subst (λ (xs : Shards). StandReady r named lists w xs) (sym same)
    (record {
      count = ready.count;
      order = ready.order;
      one_rule = ready.one_rule;
      terms = ready.terms;
      held = ready.held;
      low = ready.low;
      books = ready.books;
      tallied = ready.tallied;
      adds_up = ready.adds_up;
      billed = ready.billed;
      knows = ready.knows;
      awaited = ready.awaited;
      few_outs = ready.few_outs;
      blank = ready.blank;
      roomy = prepared.roomy;
      rows = prepared.rows;
      serials = prepared.serials;
      free = prepared.free;
    })

-- the shards are others that were made ready, of which some lists were taken for their journals
abbrev pub made : Works → Vec (ShardView ShardState Entry) Global → Vec (Batch Entry) Global → Works
made w shards spare = record w { shards = shards; spare = spare }

module _ (w : Works) (shards : Vec (ShardView ShardState Entry) Global) (spare : Vec (Batch Entry) Global) (kept : AllZip Kept w.shards.items shards.items) where
  pub same_count : length shards.items ≡ length w.shards.items
  same_count = omega (arith, length_all_zip Kept w.shards.items shards.items kept)

  -- they are what the settlement began with
  pub ready_still : (r : Rules) (named : Named) (lists : Lists) → All IsEmpty shards.items → IsReady r named lists w → IsReady r named lists (made w shards spare)
  ready_still r named lists empty was = record {
    count = same_count ∙ was.count;
    some = was.some;
    few = was.few;
    order = order_kept Kept (λ x y k. k.number) w.shards.items shards.items kept was.order;
    empty = empty;
    sessions = sessions_kept w.shards.items shards.items kept was.sessions;
    places = was.places;
    held = held_kept w.pool.table w.shards.items shards.items kept was.held;
    pools = was.pools;
    one_rule = all_onward Kept (WorksBy r) (λ x y k here. ap (λ (s : ShardState). s.rules) k.state ∙ here) w.shards.items shards.items kept was.one_rule;
    terms = terms_held named.moment w.shards.items shards.items kept was.terms;
    low = low_kept (2 ^ 62 + 2 ^ 61) w.shards.items shards.items kept was.low;
    books = books_kept (2 ^ 62 + 2 ^ 61) w.shards.items shards.items kept was.books;
    tally = was.tally;
    tallied = lines_kept (λ input. in_book Octets input w.tally) w.shards.items shards.items w.accounts.lines kept was.tallied;
    adds_up = sum_kept w.tally w.shards.items shards.items w.accounts.stopped kept was.adds_up;
    billed = subst (λ (ks : List Key). AreBilled ks w.accounts.billing) (sym (kept_keys w.shards.items shards.items kept)) was.billed;
    knows = knows_held w.shards.items shards.items w.accounts.billing kept was.knows;
    awaited = awaited_held named.moment w.shards.items shards.items w.accounts.reports kept was.awaited;
    all_told = all_onward Kept AllTold (λ x y k here. ap (λ (s : ShardState). s.changed) k.state ∙ here) w.shards.items shards.items kept was.all_told;
    moment = was.moment;
    counts = was.counts;
    drawn = was.drawn;
    handed = was.handed ∙ sym same_count;
    none_kept = was.none_kept;
    room = was.room;
    items = was.items;
    few_outs = omega (arith, was.few_outs, same_count);
    blank = subst (λ (n : ℕ). AreBlank n lists) (sym same_count) was.blank;
  }

  -- and what keeps of them keeps of those before
  pub keeps_still : (moment : ℕ) (w' : Works) → KeepsWorks moment (made w shards spare) w' → KeepsWorks moment w w'
  keeps_still moment w' k = record {
    count = k.count ∙ same_count;
    order = k.order;
    empty = k.empty;
    sessions = k.sessions;
    low = λ most low. k.low most (low_kept most w.shards.items shards.items kept low);
    books = λ most low. k.books most (books_kept most w.shards.items shards.items kept low);
    tally = k.tally;
    tallied = k.tallied;
    adds_up = k.adds_up;
    billed = k.billed;
    counts = k.counts;
    drawn = k.drawn;
    handed = k.handed;
    room = k.room;
    places = k.places;
    held = k.held;
    ranges = k.ranges;
    terms = k.terms;
    knows = k.knows;
    awaited = k.awaited;
  }

-- the replies that are sent again stand beside what a round is opened with
pub ready_with : (r : Rules) (named : Named) (lists : Lists) (w : Works) (repeats : Vec Repeated Global) → IsReady r named lists w → IsReady r named (record lists { repeats = repeats }) w
ready_with r named lists w repeats was = record {
  count = was.count;
  some = was.some;
  few = was.few;
  order = was.order;
  empty = was.empty;
  sessions = was.sessions;
  places = was.places;
  held = was.held;
  pools = was.pools;
  one_rule = was.one_rule;
  terms = was.terms;
  low = was.low;
  books = was.books;
  tally = was.tally;
  tallied = was.tallied;
  adds_up = was.adds_up;
  billed = was.billed;
  knows = was.knows;
  awaited = was.awaited;
  all_told = was.all_told;
  moment = was.moment;
  counts = was.counts;
  drawn = was.drawn;
  handed = was.handed;
  none_kept = was.none_kept;
  room = was.room;
  items = was.items;
  few_outs = was.few_outs;
  blank = record {
    loose = was.blank.loose;
    loose_room = was.blank.loose_room;
    journals = was.blank.journals;
    journals_room = was.blank.journals_room;
    outs = was.blank.outs;
    outs_room = was.blank.outs_room;
    allowances = was.blank.allowances;
  };
}
