-- What is known of the requests that are out, from one call of a lane to the next.
use Rattle.std.proofs.Common.{◌≡◌, ⊎_elim, ℕ, zero, suc, Bool, true, false, List, [], ◌∷◌, get_or, set, Option, Some, None, refl, sym, ap, subst, ◌∙◌}
use Rattle.std.proofs.lemmas.Bool.{false≢true}
use Rattle.bng_base.specs.declared.address.Peer.{Peer}
use Rattle.bng_access.specs.declared.rules.NasRules.{NasRules}
use Rattle.bng_rad_client.specs.declared.pending.Pending.{Pending}
use Rattle.bng_rad_client.specs.declared.rules.Owner.TheVariants.{Ask}
use Rattle.bng_rad_client.specs.Table.{request_of}
use Rattle.bng_verdict.specs.declared.question.AuthAsk.{AuthAsk}
use Rattle.bng_verdict.specs.declared.question.QuestionNo.{QuestionNo}
use Rattle.bng_lane.specs.State.{LaneState, places_of, flag_of, without, noted, with_table_of}
use Rattle.bng_lane.specs.Replies.{Takes}
use Rattle.bng_lane.specs.Due.{GivesUp, IsResentBy}
use Rattle.bng_lane.specs.Asking.{IsAskedBy}
use Rattle.bng_lane.specs.Sends.{LaneSend, LaneAsk, Resends, Asks}
use Rattle.bng_lane.proofs.Places.{written}

unflagged : (sent : List Bool) (i : ℕ) → get_or (set sent i false) i false ≡ false
unflagged [] i = refl
unflagged (b ∷ sent) zero = refl
unflagged (b ∷ sent) (suc i) = unflagged sent i

-- the lane speaks for this gateway, to this server, with this secret
pub record Serves (nas : NasRules) (server : Peer) (secret : List ℕ) (l : LaneState) : Type 0 where
  pub nas_is : l.nas ≡ nas
  pub server_is : l.client.auth_server ≡ server
  pub secret_is : l.client.secret ≡ secret

-- Each request that is out is of a question of which something is known; and where it was sent at all, something is known of its octets.
pub record Knows (Asked : ℕ → QuestionNo → List ℕ → Type 0) (Went : List ℕ → Type 0) (l : LaneState) : Type 0 where
  pub known : (id : ℕ) (r : Pending) → request_of (places_of l) id ≡ Some r → (q : QuestionNo) × (r.owner ≡ Ask q.session q.ask) × Asked id q r.octets
  pub went : (id : ℕ) (r : Pending) → request_of (places_of l) id ≡ Some r → flag_of l id ≡ true → Went r.octets

module _ (nas : NasRules) (server : Peer) (secret : List ℕ) where
  tabled : (old new : LaneState) → new ≡ with_table_of old new → Serves nas server secret old → Serves nas server secret new
  tabled old new others s = record {
    nas_is = ap (λ (l : LaneState). l.nas) others ∙ s.nas_is;
    server_is = ap (λ (l : LaneState). l.client.auth_server) others ∙ s.server_is;
    secret_is = ap (λ (l : LaneState). l.client.secret) others ∙ s.secret_is;
  }

  asked_serves : (old new : LaneState) (now : ℕ) (ask : AuthAsk) (authenticator : List ℕ) (id : ℕ) (octets : List ℕ) → IsAskedBy old now ask authenticator id octets new → Serves nas server secret old → Serves nas server secret new
  asked_serves old new now ask authenticator id octets by s = record {
    nas_is = ap (λ (l : LaneState). l.nas) by.others ∙ s.nas_is;
    server_is = ap (λ (l : LaneState). l.client.auth_server) by.others ∙ s.server_is;
    secret_is = ap (λ (l : LaneState). l.client.secret) by.others ∙ s.secret_is;
  }

  without_serves : (l : LaneState) (id : ℕ) → Serves nas server secret l → Serves nas server secret (without l id)
  without_serves l id s = record { nas_is = s.nas_is; server_is = s.server_is; secret_is = s.secret_is }

  noted_serves : (l : LaneState) (id : ℕ) (sent : Bool) → Serves nas server secret l → Serves nas server secret (noted id sent l)
  noted_serves l id sent s = record { nas_is = s.nas_is; server_is = s.server_is; secret_is = s.secret_is }

  pub takes_serves : (old new : LaneState) (from : Peer) (octets : List ℕ) (found : Option QuestionNo) → Takes old from octets found new → Serves nas server secret old → Serves nas server secret new
  takes_serves old new from octets None (none, after) s = subst (Serves nas server secret) (sym after) s
  takes_serves old new from octets (Some q) (c, after) s = subst (Serves nas server secret) (sym after) (without_serves old c.packet.id s)

  pub gives_up_serves : (old new : LaneState) (now : ℕ) (q : QuestionNo) → GivesUp old now (Some q) new → Serves nas server secret old → Serves nas server secret new
  gives_up_serves old new now q (g, after) s = subst (Serves nas server secret) (sym after) (without_serves old g.due.id s)

  pub resends_serves : (now : ℕ) (old new : LaneState) (s : LaneSend) → Resends now old s new → Serves nas server secret old → Serves nas server secret new
  resends_serves now old new s (m, by, after) h = subst (Serves nas server secret) (sym after) (noted_serves m s.id s.sent (tabled old m by.others h))

  pub asks_serves : (now : ℕ) (old new : LaneState) (a : LaneAsk) → Asks now old a new → Serves nas server secret old → Serves nas server secret new
  asks_serves now old new a (m, by, after) h =
      subst (Serves nas server secret) (sym after) (noted_serves m a.send.id a.send.sent (asked_serves old m now a.ask a.authenticator a.send.id a.send.octets by h))

module _ (Asked : ℕ → QuestionNo → List ℕ → Type 0) (Went : List ℕ → Type 0) where
  without_knows : (l : LaneState) (id : ℕ) → Knows Asked Went l → Knows Asked Went (without l id)
  without_knows l id k = record {
    known = λ i r is. k.known i r (still i r is);
    went = λ i r is flag. k.went i r (still i r is) flag;
  }
    where
      still : (i : ℕ) (r : Pending) → request_of (set (places_of l) id None) i ≡ Some r → request_of (places_of l) i ≡ Some r
      still i r is = ⊎_elim
          (λ gone. absurd (let both : None ≡ Some r = sym gone.1 ∙ is in cc))
          (λ same. sym same ∙ is)
          (written (places_of l) id i None None)

  noted_knows : (l : LaneState) (id : ℕ) (sent : Bool) → (sent ≡ true → (r : Pending) → request_of (places_of l) id ≡ Some r → Went r.octets) → Knows Asked Went l → Knows Asked Went (noted id sent l)
  noted_knows l id false says k = record { known = k.known; went = k.went }
  noted_knows l id true says k = record {
    known = k.known;
    went = λ i r is flag. ⊎_elim
        (λ here. says refl r (ap (request_of (places_of l)) (sym here.0) ∙ is))
        (λ same. k.went i r is (sym same ∙ flag))
        (written l.sent id i true false);
  }

  pub takes_knows : (old new : LaneState) (from : Peer) (octets : List ℕ) (found : Option QuestionNo) → Takes old from octets found new → Knows Asked Went old → Knows Asked Went new
  takes_knows old new from octets None (none, after) k = subst (Knows Asked Went) (sym after) k
  takes_knows old new from octets (Some q) (c, after) k = subst (Knows Asked Went) (sym after) (without_knows old c.packet.id k)

  pub gives_up_knows : (old new : LaneState) (now : ℕ) (q : QuestionNo) → GivesUp old now (Some q) new → Knows Asked Went old → Knows Asked Went new
  gives_up_knows old new now q (g, after) k = subst (Knows Asked Went) (sym after) (without_knows old g.due.id k)

  module _ (old m : LaneState) (now id : ℕ) (octets : List ℕ) (by : IsResentBy old now id octets m) where
    there : (i : ℕ) (r : Pending) → request_of (places_of m) i ≡ Some r → request_of (set (places_of old) id (Some by.resent.sent.after)) i ≡ Some r
    there i r is = ap (λ (ps : List (Option Pending)). request_of ps i) (sym by.resent.sent.places) ∙ is

    -- what is out after it was so before, with the same octets and owner
    was : (i : ℕ) (r : Pending) → request_of (places_of m) i ≡ Some r → (s : Pending) × (request_of (places_of old) i ≡ Some s) × (s.octets ≡ r.octets) × (r.owner ≡ s.owner)
    was i r is = ⊎_elim
        (λ put.
        let both : Some by.resent.sent.after ≡ Some r = sym put.1 ∙ there i r is in
        let e : by.resent.sent.after ≡ r = cc in
        (by.resent.sent.before, ap (request_of (places_of old)) put.0 ∙ by.resent.sent.was, sym by.resent.sent.octets ∙ ap (λ (p : Pending). p.octets) e, sym (ap (λ (p : Pending). p.owner) e) ∙ by.resent.sent.owner))
        (λ same. (r, sym same ∙ there i r is, refl, refl))
        (written (places_of old) id i (Some by.resent.sent.after) None)

    resent_octets : (r : Pending) → request_of (places_of m) id ≡ Some r → octets ≡ r.octets
    resent_octets r is =
        let before = was id r is in
        let both : Some by.resent.sent.before ≡ Some before.0 = sym by.resent.sent.was ∙ before.1 in
        let e : by.resent.sent.before ≡ before.0 = cc in
        by.payload ∙ by.resent.sent.payload ∙ ap (λ (p : Pending). p.octets) e ∙ before.2

    resent_knows : Knows Asked Went old → Knows Asked Went m
    resent_knows k = record {
      known = λ i r is. let before = was i r is in let known = k.known i before.0 before.1 in (known.0, before.3 ∙ known.1, subst (Asked i known.0) before.2 known.2);
      went = λ i r is flag. let before = was i r is in subst Went before.2 (k.went i before.0 before.1 (sym (ap (λ (l : LaneState). flag_of l i) by.others) ∙ flag));
    }

  pub resends_knows : (now : ℕ) (old new : LaneState) (s : LaneSend) → Resends now old s new → (s.sent ≡ true → Went s.octets) → Knows Asked Went old → Knows Asked Went new
  resends_knows now old new s (m, by, after) goes k = subst (Knows Asked Went) (sym after)
      (noted_knows m s.id s.sent (λ sent r is. subst Went (resent_octets old m now s.id s.octets by r is) (goes sent)) (resent_knows old m now s.id s.octets by k))

  module _ (old m : LaneState) (now : ℕ) (ask : AuthAsk) (authenticator : List ℕ) (id : ℕ) (octets : List ℕ) (by : IsAskedBy old now ask authenticator id octets m) where
    made_there : (i : ℕ) (r : Pending) → request_of (places_of m) i ≡ Some r → request_of (set (places_of old) id (Some by.asked.made)) i ≡ Some r
    made_there i r is = ap (λ (ps : List (Option Pending)). request_of ps i) (sym by.asked.places) ∙ is

    made_octets : octets ≡ by.asked.made.octets
    made_octets = by.payload ∙ sym by.asked.octets

    flagged : (i : ℕ) → flag_of m i ≡ true → get_or (set old.sent id false) i false ≡ true
    flagged i flag = sym (ap (λ (l : LaneState). flag_of l i) by.others) ∙ flag

    asked_knows : Asked id ask.number octets → Knows Asked Went old → Knows Asked Went m
    asked_knows says k = record {
      known = λ i r is. ⊎_elim
          (λ put.
          let both : Some by.asked.made ≡ Some r = sym put.1 ∙ made_there i r is in
          let e : by.asked.made ≡ r = cc in
          (ask.number, sym (ap (λ (p : Pending). p.owner) e) ∙ by.asked.owner_is, subst (λ (j : ℕ). Asked j ask.number r.octets) (sym put.0) (subst (Asked id ask.number) (made_octets ∙ ap (λ (p : Pending). p.octets) e) says)))
          (λ same. k.known i r (sym same ∙ made_there i r is))
          (written (places_of old) id i (Some by.asked.made) None);
      went = λ i r is flag. ⊎_elim
          (λ put. absurd (false≢true (sym (unflagged old.sent id) ∙ ap (λ (j : ℕ). get_or (set old.sent id false) j false) (sym put.0) ∙ flagged i flag)))
          (λ same. ⊎_elim
          (λ none. absurd (false≢true (sym none.1 ∙ flagged i flag)))
          (λ kept. k.went i r (sym same ∙ made_there i r is) (sym kept ∙ flagged i flag))
          (written old.sent id i false false))
          (written (places_of old) id i (Some by.asked.made) None);
    }

    asked_there : (r : Pending) → request_of (places_of m) id ≡ Some r → octets ≡ r.octets
    asked_there r is =
        let both : Some by.asked.made ≡ Some r = sym by.pending ∙ is in
        let e : by.asked.made ≡ r = cc in
        made_octets ∙ ap (λ (p : Pending). p.octets) e

  pub asks_knows : (now : ℕ) (old new : LaneState) (a : LaneAsk) → Asks now old a new → Asked a.send.id a.ask.number a.send.octets → (a.send.sent ≡ true → Went a.send.octets) → Knows Asked Went old → Knows Asked Went new
  asks_knows now old new a (m, by, after) says goes k = subst (Knows Asked Went) (sym after)
      (noted_knows m a.send.id a.send.sent (λ sent r is. subst Went (asked_there old m now a.ask a.authenticator a.send.id a.send.octets by r is) (goes sent)) (asked_knows old m now a.ask a.authenticator a.send.id a.send.octets by says k))

-- what is known may be weakened
pub knows_less : (Asked Asked' : ℕ → QuestionNo → List ℕ → Type 0) (Went Went' : List ℕ → Type 0) (l : LaneState) → ((id : ℕ) (q : QuestionNo) (o : List ℕ) → Asked id q o → Asked' id q o) → ((o : List ℕ) → Went o → Went' o) → Knows Asked Went l → Knows Asked' Went' l
knows_less Asked Asked' Went Went' l more further k = record {
  known = λ i r is. let known = k.known i r is in (known.0, known.1, more i known.0 r.octets known.2);
  went = λ i r is flag. further r.octets (k.went i r is flag);
}
