-- What was done with an item, by its kind.
use Rattle.std.proofs.Common.{◌≡◌, ℕ, zero, suc, ◌≤◌, ◌++◌, Bool, List, Option, None, length, append-nil, inl, inr, refl, sym, ap, subst, ◌∙◌}
use Rattle.std.specs.Prelude.{option_to_list}
use Rattle.bng_base.specs.declared.fate.Fate.{Fate}
use Rattle.bng_base.specs.declared.fate.Fate.TheVariants.{Consumed}
use Rattle.bng_base.specs.declared.item.Claim.{Claim}
use Rattle.bng_base.specs.declared.item.Claim.TheVariants.{NoClaim}
use Rattle.bng_base.specs.declared.item.Entry.{Entry}
use Rattle.bng_base.specs.declared.item.Item.{Item}
use Rattle.bng_base.specs.declared.item.ItemKind.{ItemKind}
use Rattle.bng_base.specs.declared.item.ItemKind.TheVariants.{Tick, End}
use Rattle.bng_base.specs.declared.item.OutRecord.{OutRecord}
use Rattle.bng_steps.specs.declared.changes.ChangeAnswer.{ChangeAnswer}
use Rattle.bng_steps.specs.declared.rules.Rules.{Rules}
use Rattle.bng_base.specs.declared.item.At.{At}
use Rattle.bng_steps.specs.State.{State, with_ended, with_tunnels}
use Rattle.bng_steps.specs.Changes.{AnswersKind, IsAnswerOf}
use Rattle.bng_steps.specs.Deed.{at_of, handled}
use Rattle.bng_steps.specs.L2tp.{tunnels_most}
use Rattle.bng_steps.specs.Link.{ended as ended_session, nas_request}
use Rattle.bng_steps.specs.Doing.{DoesWith}
use Rattle.bng_steps.specs.Hearing.{Does, outs_most}
use Rattle.bng_steps.specs.Protocol.{entry_of, entry_with}
use Rattle.bng_steps.specs.Step.{Step, Hears, MayClaim}
use Rattle.bng_steps.specs.declared.wish.Wish.{Wish}
use Rattle.bng_steps.specs.declared.wish.Wish.TheVariants.{Nothing}
use Rattle.bng_steps.specs.Wished.{IsAnswered, WishesFor}
use Rattle.bng_steps.specs.Wishes.{IsAnswerTo}
use Rattle.bng_steps.specs.Timed.{TickDone, EndDone}
use Rattle.bng_steps.specs.Timers.{Ends, StopsTunnels, at_once, Reminds}
use Rattle.bng_steps.proofs.Carrying.{its_place}

-- sessions that end leave the shard its number
ends_number : (k : ℕ) (r : Rules) (e : Entry) (s : State) (outs : List OutRecord) (s' : State) → Ends k r e s outs s' → s'.sessions.shard ≡ s.sessions.shard
ends_number zero r e s outs s' h = ap (λ (q : State). q.sessions.shard) h.1
ends_number (suc k) r e s outs s' (inl h) = ap (λ (q : State). q.sessions.shard) h.2
ends_number (suc k) r e s outs s' (inr (n, lowest, x, at, padt, rest, tells, more, are)) = ends_number k r e (with_ended s n x.lease nas_request (ended_session x)) rest s' more

-- what no item of its kind asks is not answered
pub unasked : (r : Rules) (s : State) (item : Item) (limited : Bool) (claim : Claim) (kind : ItemKind) → item.kind ≡ kind → ((wish : Wish) → WishesFor kind r s item limited wish → wish ≡ Nothing)
    → IsAnswered r s item limited claim → claim ≡ NoClaim
unasked r s item limited claim kind is none h =
    subst (λ (w : Wish). IsAnswerTo r.pools w claim) (none h.wish (subst (λ (k : ItemKind). WishesFor k r s item limited h.wish) is h.is_wished)) h.answers

module _ (r : Rules) (s s' : State) (outs outs' : List OutRecord) (a : At) (now : ℕ) (item : Item) (limited : Bool) where
  abbrev IsStep : Claim → Fate → Type 0
  IsStep claim fate = Does (Step r s limited) (outs_most item.kind) s s' outs outs' (entry_with claim a.seat a.place now item) fate

  -- what the kind of the item calls for was done, with this claim
  pub stepped_with : (claim : Claim) (fate : Fate) (kind : ItemKind) → item.kind ≡ kind → MayClaim kind claim
      → Does (λ d. Hears kind r s limited (entry_with claim a.seat a.place now item) d) (outs_most kind) s s' outs outs' (entry_with claim a.seat a.place now item) fate → IsStep claim fate
  stepped_with claim fate kind is may h =
      let e = entry_with claim a.seat a.place now item in
      let here : Hears item.kind r s limited e h.deed = subst (λ (k : ItemKind). Hears k r s limited e h.deed) (sym is) h.says in
      let its : MayClaim item.kind claim = subst (λ (k : ItemKind). MayClaim k claim) (sym is) may in
      record {
        deed = h.deed;
        entry = h.entry;
        fate_is = h.fate_is;
        next = h.next;
        says = record {
          claim = subst (λ (x : Entry). MayClaim x.item.kind x.claim) (sym h.entry) its;
          hears = subst (λ (x : Entry). Hears x.item.kind r s limited x h.deed) (sym h.entry) here;
        };
        outs_are = h.outs_are;
        few = subst (λ (k : ItemKind). length h.deed.outs ≤ outs_most k) (sym is) h.few;
      }

  module _ (claim : Claim) (none : claim ≡ NoClaim) where
    -- the same of a kind that asks for nothing
    pub stepped : (fate : Fate) (kind : ItemKind) → item.kind ≡ kind → MayClaim kind NoClaim → DoesWith (λ e d. Hears kind r s limited e d) (outs_most kind) s s' outs outs' a now item fate → IsStep claim fate
    stepped fate kind is may h = subst (λ (c : Claim). IsStep c fate) (sym none) (stepped_with NoClaim fate kind is may h)

    module _ (here : a.shard ≡ s.sessions.shard) where
      abbrev entry : Entry
      entry = entry_of a.seat a.place now item

      at : a ≡ at_of s entry
      at = its_place s a now item here

      pub ticked : item.kind ≡ Tick → TickDone r a now item.random s s' outs outs' → IsStep claim Consumed
      ticked is t = stepped Consumed Tick is refl (record {
        deed = handled s entry (t.first ++ t.rest) s';
        entry = refl;
        fate_is = refl;
        next = refl;
        says = (t.first, t.next, subst (λ (b : At). Reminds tunnels_most 0 b now s t.first t.next) at t.reminds, t.rest, s', t.ticks entry refl refl (sym at), refl);
        outs_are = t.outs_are;
        few = t.few;
      })

      pub ended : item.kind ≡ End → EndDone r a now s s' outs outs' → IsStep claim Consumed
      ended is t =
          let number = ends_number at_once r entry s t.first t.next (t.ends entry (sym at)) in
          let there : a ≡ at_of t.next entry = at ∙ ap (λ (n : ℕ). let b : At = record { shard = n; seat = a.seat; place = a.place } in b) (sym number) in
          stepped Consumed End is refl (record {
            deed = handled s entry (t.first ++ t.rest) (with_tunnels t.next t.tunnels);
            entry = refl;
            fate_is = refl;
            next = sym t.after;
            says = (t.first, t.next, t.ends entry (sym at), t.rest, t.tunnels, subst (λ (b : At). StopsTunnels b now t.next t.rest t.tunnels) there t.stops, refl);
            outs_are = t.outs_are;
            few = t.few;
          })

-- what is answered to an item is so by its kind
pub answered_so : (r : Rules) (s : State) (item : Item) (kind : ItemKind) → item.kind ≡ kind → (e : Entry) → e.item ≡ item → (answer : Option ChangeAnswer) → AnswersKind kind r s e answer → IsAnswerOf r s e answer
answered_so r s item kind is e same answer h = subst (λ (k : ItemKind). AnswersKind k r s e answer) (sym (ap (λ (i : Item). i.kind) same ∙ is)) h

-- nothing is, where its kind has no answers
pub unanswered : (r : Rules) (s : State) (item : Item) (kind : ItemKind) → item.kind ≡ kind → ((e : Entry) → AnswersKind kind r s e None) → (answers : List ChangeAnswer) (e : Entry) → e.item ≡ item
    → (answer : Option ChangeAnswer) × IsAnswerOf r s e answer × (answers ≡ answers ++ option_to_list answer)
unanswered r s item kind is none answers e same = (None, answered_so r s item kind is e same None (none e), sym (append-nil answers))
