-- The shards once their round is settled, as the engine sees them.
use Rattle.std.proofs.Common.{◌≡◌, List, [], ◌∷◌, ◌++◌, map, refl, sym, ap, subst, ◌∙◌, arith}
use Rattle.std.specs.List.{AllByRecursion, AllZip, flat_map, sum_by}
use Rattle.std.proofs.lemmas.List.Sums.{sum_by-append}
use Rattle.bng_base.specs.declared.item.Entry.{Entry}
use Rattle.bng_base.specs.declared.item.OutRecord.{OutRecord}
use Rattle.bng_base.specs.Listed.{Same}
use Rattle.bng_engine.specs.Calls.{InTurn, IsSettled, Reaps, all_sends}
use Rattle.bng_engine.specs.Lists.{Zip3}
use Rattle.bng_engine.specs.Settlements.{AreStarts}
use Rattle.bng_engine.specs.Showing.{with_lists}
use Rattle.bng_engine.specs.Terms.{Key, Stop, keys}
use Rattle.bng_engine.specs.Views.{row_keys, rows_where}
use Rattle.bng_steps.specs.Protocol.{Handled, ShardState, key_in, pppoe, terms_of}
use Rattle.bng_steps.specs.Tenures.{Tenure}
use Rattle.bng_desk.specs.Round.{entries_of}
use Rattle.bng_desk.specs.Taking.{BegunTo, IsLeftBy, IsTurning, ReapedTo, SentTo, Shown, Sight, joined, settled_as}
use Rattle.bng_desk.proofs.Dealing.{Seens}
use Rattle.bng_desk.proofs.Growing.{begets_along, keys_are}
use Rattle.bng_desk.proofs.Readying.{Shards}
use Rattle.bng_desk.proofs.Sending.{not_sent_yet}

-- One shard -------------------------------------------------------------------------------------------------------------

-- no Start is owed
abbrev pub OwesNothing : Sight → Type 0
OwesNothing b = b.state.slots.news ≡ []

module _ (was : Sight) (v v' v'' : Shown) (es : List Handled) (outs sends : List OutRecord) (stops : List Stop) (starts : List Key) (turn : InTurn pppoe was (with_lists v es outs sends)) (reaped : ReapedTo v v' stops) (begun : BegunTo v' v'' starts) (none : OwesNothing was) where
  -- the terms that began are those that stand behind those that were there
  are_starts : AreStarts (terms_of was.state) (terms_of v.state) starts
  are_starts =
      let all = begets_along was.state es turn.steps in
      let news : v'.state.slots.news ≡ all.began =
      ap (λ (s : ShardState). s.slots.news) reaped.state ∙ ap (λ (s : ShardState). s.slots.news) turn.state ∙ all.news ∙ ap (λ (ts : List Tenure). ts ++ all.began) none in
      let grown : keys (terms_of v.state) ≡ map key_in was.state.slots.terms ++ map key_in all.began =
      keys_are v.state.slots.terms ∙ ap (λ (s : ShardState). map key_in s.slots.terms) turn.state ∙ all.keys_are in
      record {
        order = begun.order;
        each = λ f.
            omega (
              arith,
              ap (sum_by f) grown,
              sum_by-append f (map key_in was.state.slots.terms) (map key_in all.began),
              ap (sum_by f) (keys_are was.state.slots.terms),
              begun.each f,
              ap (λ (ts : List Tenure). sum_by f (map key_in ts)) news,
              sum_by-append f (keys (terms_of was.state)) starts,
            );
      }

  -- its terms that ended have left, and those that began have their Starts
  pub settles_to : Reaps pppoe (terms_of was.state) (with_lists v es outs sends) (settled_as v'' es outs sends stops starts)
  settles_to = record {
    number = ap (λ (x : Shown). x.number) begun.after ∙ reaped.number;
    allowance = ap (λ (x : Shown). x.allowance) begun.after ∙ reaped.allowance;
    state = ap (λ (x : Shown). x.state) begun.after ∙ ap (λ (s : ShardState). let t : ShardState = record s { slots = record s.slots { news = [] } } in t) reaped.state;
    fit = subst (λ (x : Shown). Same (row_keys x.rows) (keys (terms_of x.state))) (sym begun.after) (reaped.fit turn.fit);
    order = reaped.order;
    each = reaped.each;
    rows = λ q pick input. omega (arith, reaped.rows q pick input, ap (λ (x : Shown). rows_where q pick input x.rows) begun.after);
    begun = are_starts;
    books = ap (λ (x : Shown). x.books) begun.after ∙ reaped.books;
    journal = refl;
    sends = refl;
  }

  pub allowance_stays : v''.allowance ≡ v.allowance
  allowance_stays = ap (λ (x : Shown). x.allowance) begun.after ∙ reaped.allowance

-- All shards ------------------------------------------------------------------------------------------------------------

abbrev all_seen : Seens → Shards → List (List OutRecord) → List (List Stop) → List (List Key) → Seens
all_seen (x ∷ xs) (z ∷ zs) (rs ∷ rss) (ss ∷ sss) (ks ∷ kss) = settled_as z x.journal x.outs rs ss ks ∷ all_seen xs zs rss sss kss
all_seen xs zs rss sss kss = []

-- the shards once their round is settled
pub record IsSeen (was now xs : Seens) (vs zs : Shards) (rss : List (List OutRecord)) (sss : List (List Stop)) (kss : List (List Key)) : Type 0 where
  pub settles : Zip3 (IsSettled pppoe) was now xs
  pub left : AllZip IsLeftBy zs xs
  pub allowances : AllZip (λ (x y : Sight). y.allowance ≡ x.allowance) now xs
  pub sends : joined rss ≡ all_sends xs
  pub stops : joined sss ≡ flat_map (λ v. v.stops) xs
  pub starts : joined kss ≡ flat_map (λ v. v.starts) xs
  pub journals : map (λ v. v.journal) vs ≡ map entries_of now

settled : (vs : Shards) (was now : Seens) (us : Shards) (rss : List (List OutRecord)) (ws : Shards) (sss : List (List Stop)) (zs : Shards) (kss : List (List Key)) → Zip3 IsTurning vs was now → Zip3 SentTo vs us rss → Zip3 ReapedTo us ws sss → Zip3 BegunTo ws zs kss
    → AllByRecursion OwesNothing was → IsSeen was now (all_seen now zs rss sss kss) vs zs rss sss kss
settled [] [] [] [] [] [] [] [] [] t s r b none = record { settles = tt; left = tt; allowances = tt; sends = refl; stops = refl; starts = refl; journals = refl }
settled [] [] [] [] [] [] [] zs kss t s r b none = absurd b
settled [] [] [] [] [] ws sss zs kss t s r b none = absurd r
settled [] [] [] us rss ws sss zs kss t s r b none = absurd s
settled (v ∷ vs) (o ∷ was) (x ∷ now) (u ∷ us) (rs ∷ rss) (w ∷ ws) (ss ∷ sss) (z ∷ zs) (ks ∷ kss) t s r b none =
    let more = settled vs was now us rss ws sss zs kss t.1 s.1 r.1 b.1 none.1 in
    let turn = s.0.turn o x t.0 in
    record {
      settles = (
        record {
          mid = with_lists u x.journal x.outs rs;
          turn = turn;
          journal = refl;
          outs = refl;
          settles = record { all = s.0.are_outs ∙ not_sent_yet v o x t.0; reaps = settles_to o u w z x.journal x.outs rs ss ks turn r.0 b.0 none.0 };
        },
        more.settles,
      );
      left = (record { number = refl; state = refl; rows = refl; books = refl }, more.left);
      allowances = (allowance_stays o u w z x.journal x.outs rs ss ks turn r.0 b.0 none.0 ∙ s.0.allowance ∙ ap (λ (y : Sight). y.allowance) t.0.shows.same, more.allowances);
      sends = ap (λ (os : List OutRecord). rs ++ os) more.sends;
      stops = ap (λ (os : List Stop). ss ++ os) more.stops;
      starts = ap (λ (os : List Key). ks ++ os) more.starts;
      journals = ap (λ (es : List Entry). es ∷ map (λ (y : Shown). y.journal) vs) (sym t.0.shows.entries) ∙ ap (λ (js : List (List Entry)). entries_of x ∷ js) more.journals;
    }
settled (v ∷ vs) (o ∷ was) (x ∷ now) (u ∷ us) (rs ∷ rss) (w ∷ ws) (ss ∷ sss) zs kss t s r b none = absurd b
settled (v ∷ vs) (o ∷ was) (x ∷ now) (u ∷ us) (rs ∷ rss) ws sss zs kss t s r b none = absurd r
settled (v ∷ vs) (o ∷ was) (x ∷ now) us rss ws sss zs kss t s r b none = absurd s
settled vs was now us rss ws sss zs kss t s r b none = absurd t

pub record IsReaped (was now : Seens) (vs zs : Shards) (rss : List (List OutRecord)) (sss : List (List Stop)) (kss : List (List Key)) : Type 0 where
  pub settled : Seens
  pub is : IsSeen was now settled vs zs rss sss kss

pub as_seen : (vs : Shards) (was now : Seens) (us : Shards) (rss : List (List OutRecord)) (ws : Shards) (sss : List (List Stop)) (zs : Shards) (kss : List (List Key)) → Zip3 IsTurning vs was now → Zip3 SentTo vs us rss → Zip3 ReapedTo us ws sss → Zip3 BegunTo ws zs kss
    → AllByRecursion OwesNothing was → IsReaped was now vs zs rss sss kss
as_seen vs was now us rss ws sss zs kss t s r b none = record { settled = all_seen now zs rss sss kss; is = settled vs was now us rss ws sss zs kss t s r b none }
