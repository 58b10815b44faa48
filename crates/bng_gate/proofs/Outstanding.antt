-- What is known of each request that is out, and of whether it was sent, from one call of a lane to the next.
use Rattle.std.proofs.Common.{◌≡◌, ⊎_elim, ℕ, zero, suc, Bool, true, false, List, [], ◌∷◌, get_or, set, Option, Some, None, refl, sym, ap, subst, ◌∙◌}
use Rattle.bng_base.specs.declared.address.Peer.{Peer}
use Rattle.bng_rad_client.specs.declared.pending.Pending.{Pending}
use Rattle.bng_rad_client.specs.declared.rules.Owner.TheVariants.{Ask}
use Rattle.bng_rad_client.specs.Table.{request_of}
use Rattle.bng_verdict.specs.declared.question.AuthAsk.{AuthAsk}
use Rattle.bng_verdict.specs.declared.question.QuestionNo.{QuestionNo}
use Rattle.bng_lane.specs.State.{LaneState, places_of, flag_of, without, noted}
use Rattle.bng_lane.specs.Replies.{Takes}
use Rattle.bng_lane.specs.Due.{GivesUp, IsResentBy}
use Rattle.bng_lane.specs.Asking.{IsAskedBy}
use Rattle.bng_lane.specs.Sends.{LaneSend, LaneAsk, Resends, Asks}
use Rattle.bng_lane.proofs.Places.{written}

unflagged : (sent : List Bool) (i : ℕ) → get_or (set sent i false) i false ≡ false
unflagged [] i = refl
unflagged (b ∷ sent) zero = refl
unflagged (b ∷ sent) (suc i) = unflagged sent i

-- of each request that is out, by its identifier, its question and its octets, and by whether it was sent
abbrev pub AllOut : (ℕ → QuestionNo → List ℕ → Bool → Type 0) → LaneState → Type 0
AllOut P l = (id : ℕ) (r : Pending) → request_of (places_of l) id ≡ Some r → (q : QuestionNo) × (r.owner ≡ Ask q.session q.ask) × P id q r.octets (flag_of l id)

-- what is known may be weakened
pub out_less : (P Q : ℕ → QuestionNo → List ℕ → Bool → Type 0) (l : LaneState) → ((id : ℕ) (q : QuestionNo) (o : List ℕ) (b : Bool) → P id q o b → Q id q o b) → AllOut P l → AllOut Q l
out_less P Q l more h id r is = let k = h id r is in (k.0, k.1, more id k.0 r.octets (flag_of l id) k.2)

module _ (P : ℕ → QuestionNo → List ℕ → Bool → Type 0) (low : (id : ℕ) (q : QuestionNo) (o : List ℕ) (b : Bool) → P id q o b → P id q o false) where
  without_out : (l : LaneState) (id : ℕ) → AllOut P l → AllOut P (without l id)
  without_out l id h i r is = h i r (still i r is)
    where
      still : (i : ℕ) (r : Pending) → request_of (set (places_of l) id None) i ≡ Some r → request_of (places_of l) i ≡ Some r
      still i r is = ⊎_elim
          (λ gone. absurd (let both : None ≡ Some r = sym gone.1 ∙ is in cc))
          (λ same. sym same ∙ is)
          (written (places_of l) id i None None)

  -- the octets go out, which makes what is known of them that of octets that were sent
  abbrev pub Goes : List ℕ → Type 0
  Goes o = (id : ℕ) (q : QuestionNo) (b : Bool) → P id q o b → P id q o true

  noted_out : (l : LaneState) (id : ℕ) (sent : Bool) → (sent ≡ true → (r : Pending) → request_of (places_of l) id ≡ Some r → Goes r.octets) → AllOut P l → AllOut P (noted id sent l)
  noted_out l id false goes h i r is = h i r is
  noted_out l id true goes h i r is =
      let was = h i r is in
      ⊎_elim
      (λ here.
      let out = goes refl r (ap (request_of (places_of l)) (sym here.0) ∙ is) i was.0 (flag_of l i) was.2 in
      (was.0, was.1, subst (P i was.0 r.octets) (sym here.1) out))
      (λ same. (was.0, was.1, subst (P i was.0 r.octets) (sym same) was.2))
      (written l.sent id i true false)

  pub takes_out : (old new : LaneState) (from : Peer) (octets : List ℕ) (found : Option QuestionNo) → Takes old from octets found new → AllOut P old → AllOut P new
  takes_out old new from octets None (none, after) h = subst (AllOut P) (sym after) h
  takes_out old new from octets (Some q) (c, after) h = subst (AllOut P) (sym after) (without_out old c.packet.id h)

  pub gives_up_out : (old new : LaneState) (now : ℕ) (q : QuestionNo) → GivesUp old now (Some q) new → AllOut P old → AllOut P new
  gives_up_out old new now q (g, after) h = subst (AllOut P) (sym after) (without_out old g.due.id h)

  module _ (old m : LaneState) (now id : ℕ) (octets : List ℕ) (by : IsResentBy old now id octets m) where
    there : (i : ℕ) (r : Pending) → request_of (places_of m) i ≡ Some r → request_of (set (places_of old) id (Some by.resent.sent.after)) i ≡ Some r
    there i r is = ap (λ (ps : List (Option Pending)). request_of ps i) (sym by.resent.sent.places) ∙ is

    -- what is out after it was so before, with the same octets and owner
    was : (i : ℕ) (r : Pending) → request_of (places_of m) i ≡ Some r → (s : Pending) × (request_of (places_of old) i ≡ Some s) × (s.octets ≡ r.octets) × (r.owner ≡ s.owner)
    was i r is = ⊎_elim
        (λ put.
        let both : Some by.resent.sent.after ≡ Some r = sym put.1 ∙ there i r is in
        let e : by.resent.sent.after ≡ r = cc in
        (by.resent.sent.before, ap (request_of (places_of old)) put.0 ∙ by.resent.sent.was, sym by.resent.sent.octets ∙ ap (λ (p : Pending). p.octets) e, sym (ap (λ (p : Pending). p.owner) e) ∙ by.resent.sent.owner))
        (λ same. (r, sym same ∙ there i r is, refl, refl))
        (written (places_of old) id i (Some by.resent.sent.after) None)

    resent_octets : (r : Pending) → request_of (places_of m) id ≡ Some r → octets ≡ r.octets
    resent_octets r is =
        let before = was id r is in
        let both : Some by.resent.sent.before ≡ Some before.0 = sym by.resent.sent.was ∙ before.1 in
        let e : by.resent.sent.before ≡ before.0 = cc in
        by.payload ∙ by.resent.sent.payload ∙ ap (λ (p : Pending). p.octets) e ∙ before.2

    resent_out : AllOut P old → AllOut P m
    resent_out h i r is =
        let before = was i r is in
        let known = h i before.0 before.1 in
        let flag : flag_of m i ≡ flag_of old i = ap (λ (l : LaneState). flag_of l i) by.others in
        (known.0, before.3 ∙ known.1, subst (P i known.0 r.octets) (sym flag) (subst (λ (o : List ℕ). P i known.0 o (flag_of old i)) before.2 known.2))

  pub resends_out : (now : ℕ) (old new : LaneState) (s : LaneSend) → Resends now old s new → (s.sent ≡ true → Goes s.octets) → AllOut P old → AllOut P new
  resends_out now old new s (m, by, after) goes h = subst (AllOut P) (sym after)
      (noted_out m s.id s.sent (λ sent r is. subst Goes (resent_octets old m now s.id s.octets by r is) (goes sent)) (resent_out old m now s.id s.octets by h))

  module _ (old m : LaneState) (now : ℕ) (ask : AuthAsk) (authenticator : List ℕ) (id : ℕ) (octets : List ℕ) (by : IsAskedBy old now ask authenticator id octets m) where
    made_there : (i : ℕ) (r : Pending) → request_of (places_of m) i ≡ Some r → request_of (set (places_of old) id (Some by.asked.made)) i ≡ Some r
    made_there i r is = ap (λ (ps : List (Option Pending)). request_of ps i) (sym by.asked.places) ∙ is

    made_octets : octets ≡ by.asked.made.octets
    made_octets = by.payload ∙ sym by.asked.octets

    flag_is : (i : ℕ) → flag_of m i ≡ get_or (set old.sent id false) i false
    flag_is i = ap (λ (l : LaneState). flag_of l i) by.others

    asked_out : P id ask.number octets false → AllOut P old → AllOut P m
    asked_out says h i r is = ⊎_elim
        (λ put.
        let both : Some by.asked.made ≡ Some r = sym put.1 ∙ made_there i r is in
        let e : by.asked.made ≡ r = cc in
        let flag : flag_of m i ≡ false = flag_is i ∙ ap (λ (j : ℕ). get_or (set old.sent id false) j false) put.0 ∙ unflagged old.sent id in
        let known = subst (λ (j : ℕ). P j ask.number r.octets false) (sym put.0) (subst (λ (o : List ℕ). P id ask.number o false) (made_octets ∙ ap (λ (p : Pending). p.octets) e) says) in
        (ask.number, sym (ap (λ (p : Pending). p.owner) e) ∙ by.asked.owner_is, subst (P i ask.number r.octets) (sym flag) known))
        (λ same.
        let known = h i r (sym same ∙ made_there i r is) in (
          known.0,
          known.1,
          ⊎_elim
              (λ none. subst (P i known.0 r.octets) (sym (flag_is i ∙ none.1)) (low i known.0 r.octets (flag_of old i) known.2))
              (λ kept. subst (P i known.0 r.octets) (sym (flag_is i ∙ kept)) known.2)
              (written old.sent id i false false),
        ))
        (written (places_of old) id i (Some by.asked.made) None)

    asked_there : (r : Pending) → request_of (places_of m) id ≡ Some r → octets ≡ r.octets
    asked_there r is =
        let both : Some by.asked.made ≡ Some r = sym by.pending ∙ is in
        let e : by.asked.made ≡ r = cc in
        made_octets ∙ ap (λ (p : Pending). p.octets) e

  pub asks_out : (now : ℕ) (old new : LaneState) (a : LaneAsk) → Asks now old a new → P a.send.id a.ask.number a.send.octets false → (a.send.sent ≡ true → Goes a.send.octets) → AllOut P old → AllOut P new
  asks_out now old new a (m, by, after) says goes h = subst (AllOut P) (sym after)
      (noted_out m a.send.id a.send.sent (λ sent r is. subst Goes (asked_there old m now a.ask a.authenticator a.send.id a.send.octets by r is) (goes sent)) (asked_out old m now a.ask a.authenticator a.send.id a.send.octets by says h))
