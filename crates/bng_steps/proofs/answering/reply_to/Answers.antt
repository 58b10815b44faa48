use Rattle.std.proofs.Common.{◌≡◌, ℕ, true, Bool, List, Option, Some, inl, inr, is_some, option_map, sym, ap, subst, ◌∙◌}
use Rattle.bng_base.specs.PppoeGrammar.{PppoeTag, AreTags}
use Rattle.bng_discovery.specs.declared.answers.Answer.{Answer}
use Rattle.bng_discovery.specs.declared.answers.Answer.TheVariants.{Offer, Make, Again, Refuse, Ended, NoSession, Ignore}
use Rattle.bng_discovery.specs.Table.{table, first_row}
use Rattle.bng_pppoe_wire.specs.View.{frame_of}
use Rattle.bng_steps.specs.declared.session.Session.{Session}
use Rattle.bng_steps.specs.Discovery.{host_uniq_of, repeated}
use Rattle.bng_steps.specs.Replying.{IsAnswer}
use Rattle.bng_steps.proofs.Judging.{other, make_or_refuse, never_again, session_again}
use Rattle.bng_steps.proofs.answering.reply_to.Given.{Over}
use Rattle.bng_steps.proofs.answering.reply_to.Goals as goal
use Rattle.bng_steps.proofs.answering.reply_to.Goals.{After-answer}

-- the session that was found is that of the tags
found_is : (g : Over) (c : After-answer g) (ts : List PppoeTag) → AreTags ts c.args.frame.now.payload.now
    → c.repeated-found.result ≡ option_map (λ (x : Session). x.number) (repeated c.args.served.now c.args.number c.args.frame.now.src (host_uniq_of ts))
found_is g c ts are =
    c.repeated-found.ensures
    ∙ ap (λ (u : Option (List ℕ)). option_map (λ (x : Session). x.number) (repeated c.args.served.now c.args.number c.args.frame.now.src u)) (c.host_uniq.ensures ts are)

row : (g : Over) (c : After-answer g) (ts : List PppoeTag) → AreTags ts c.args.frame.now.payload.now → Some c.answer.result ≡ first_row (table c.args.offers.now (frame_of c.args.frame.now) ts (is_some c.repeated-found.result) true)
row g c ts are =
    subst (λ (known : Bool). Some c.answer.result ≡ first_row (table c.args.offers.now (frame_of c.args.frame.now) ts known true)) c.is_some.ensures (c.answer.ensures.row ts are)

not_make : (g : Over) (c : After-answer g) (a : Answer) → c.answer.result ≡ a → (a ≡ Make → ⊥) → (ts : List PppoeTag) → AreTags ts c.args.frame.now.payload.now
    → (v : Option ℕ) × IsAnswer c.args.served.now c.args.number c.args.offers.now (frame_of c.args.frame.now) ts v a
not_make g c a is differs ts are =
    other c.args.served.now c.args.number c.args.offers.now (frame_of c.args.frame.now) ts c.repeated-found.result (found_is g c ts are) a (ap (λ (x : Answer). Some x) (sym is) ∙ row g c ts are) differs

pub returns-in-Offer : goal.returns-in-Offer
returns-in-Offer g c = not_make g (goal.at.returns-in-Offer g c).After-answer Offer c.in-Offer.is (λ e. let never : ⊥ = cc in never)

pub returns-in-Make : goal.returns-in-Make
returns-in-Make g c = λ ts are.
    let d = (goal.at.returns-in-Make g c).After-answer in
    make_or_refuse c.args.served.now c.args.number c.args.offers.now (frame_of c.args.frame.now) ts d.repeated-found.result (found_is g d ts are) c.make_or_refuse.result
    (ap (λ (x : Answer). Some x) (sym c.in-Make.is) ∙ row g d ts are) c.make_or_refuse.ensures.make c.make_or_refuse.ensures.refuse

pub returns-in-Some : goal.returns-in-Some
returns-in-Some g c = λ ts are.
    let d = (goal.at.returns-in-Some g c).After-answer in
    let again = not_make g d Again c.in-Again.is (λ e. let never : ⊥ = cc in never) ts are in
    let (x, at, same) = session_again c.args.served.now c.args.number c.args.offers.now (frame_of c.args.frame.now) ts d.repeated-found.result (found_is g d ts are) c.in-Some.session c.in-Some.is in
    (again.0, again.1, x, at, same)

pub returns-in-None : goal.returns-in-None
returns-in-None g c = λ ts are.
    let d = (goal.at.returns-in-None g c).After-answer in
    absurd (never_again c.args.served.now c.args.number c.args.offers.now (frame_of c.args.frame.now) ts d.repeated-found.result (found_is g d ts are) (ap (λ (x : Answer). Some x) (sym c.in-Again.is) ∙ row g d ts are) c.in-None.is)

pub returns-in-Refuse : goal.returns-in-Refuse
returns-in-Refuse g c = not_make g (goal.at.returns-in-Refuse g c).After-answer (Refuse c.in-Refuse.error) c.in-Refuse.is (λ e. let never : ⊥ = cc in never)

pub returns-in-Ended : goal.returns-in-Ended
returns-in-Ended g c = λ ts are.
    let over = not_make g (goal.at.returns-in-Ended g c).After-answer Ended c.in-Ended.is (λ e. let never : ⊥ = cc in never) ts are in
    (over.0, inl over.1)

pub returns-in-NoSession : goal.returns-in-NoSession
returns-in-NoSession g c = λ ts are.
    let none = not_make g (goal.at.returns-in-NoSession g c).After-answer NoSession c.in-NoSession.is (λ e. let never : ⊥ = cc in never) ts are in
    (none.0, inr (inl none.1))

pub returns-in-Ignore : goal.returns-in-Ignore
returns-in-Ignore g c = λ ts are.
    let silent = not_make g (goal.at.returns-in-Ignore g c).After-answer Ignore c.in-Ignore.is (λ e. let never : ⊥ = cc in never) ts are in
    (silent.0, inr (inr silent.1))
