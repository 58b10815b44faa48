use Rattle.std.proofs.Common.{◌≡◌, Bool, true, false, not, ◌&&◌, List, ℕ, cond, codes, refl, sym, ap, subst, ◌∙◌}
use Rattle.std.proofs.lemmas.Bool.{false≢true}
use Rattle.bng_base.specs.declared.outside.Role.TheVariants.{Control}
use Rattle.bng_base.specs.FateOf.{Arrival}
use Rattle.bng_base.specs.Stretch.{ExtendsPlant}
use Rattle.bng_desk.specs.Control.{is_stats, is_stop, reply_text}
use Rattle.bng_desk.specs.Reading.{sending}
use Rattle.bng_desk.proofs.Going.{unanswered, answered_as}
use Rattle.bng_desk.specs.Report.{stats_by}
use Rattle.bng_desk.proofs.control.answer.Given.{Over}
use Rattle.bng_desk.proofs.control.answer.Goals as goal
use Rattle.bng_desk.proofs.control.answer.Goals.{Start}

module _ (g : Over) (c : Start g) where
  abbrev stats : List ℕ
  stats = stats_by c.args.counted.now.shards.now c.args.counted.now.accounts.now.stopped c.args.counted.now.tally c.args.counted.now.drops.now c.args.counted.now.profiles.now

pub returns-then-not-is_near : goal.returns-then-not-is_near
returns-then-not-is_near g c = record {
  answered = false;
  told = unanswered (stats g (goal.at.returns-then-not-is_near g c).Start) (g.P.Plant.told c.args.plant.now) (record { from = c.args.from; cut = c.args.cut; octets = c.args.text.now }) (sym (c.if-not-is_near.ensures c.args.cut c.args.text.now));
  is = c.is_stop-stop.ensures;
}

-- as it is told
reply_of : (stop asks : Bool) (a b d : List ℕ) → (not stop && asks) ≡ false → cond stop a d ≡ cond stop a (cond asks b d)
reply_of true asks a b d e = refl
reply_of false false a b d e = refl
reply_of false true a b d e = absurd (false≢true (sym e))

told_of : (stop asks : Bool) (a b d : List ℕ) → (not stop && asks) ≡ true → b ≡ cond stop a (cond asks b d)
told_of true asks a b d e = absurd (false≢true e)
told_of false false a b d e = absurd (false≢true e)
told_of false true a b d e = refl

pub returns-then-asks_stats : goal.returns-then-asks_stats
returns-then-asks_stats g c =
    let a : Arrival = record { from = c.args.from; cut = c.args.cut; octets = c.args.text.now } in
    let p = g.P.Plant.told c.args.plant.now in
    let p' = g.P.Plant.told c.tell_stats.new.plant in
    let text = stats g (goal.at.returns-then-asks_stats g c).Start in
    let asks : (not (is_stop a) && is_stats a) ≡ true = ap (λ (b : Bool). not b && is_stats a) (sym c.is_stop-stop.ensures) ∙ sym c.if-asks_stats.ensures in
    let says : text ≡ reply_text text a = told_of (is_stop a) (is_stats a) (codes "stopping\n") text (codes "unknown\n") asks in
    record {
      answered = c.tell_stats.ensures.sent;
      told = answered_as text p p' a c.tell_stats.ensures.sent (sym (c.if-not-is_near.ensures c.args.cut c.args.text.now))
          (subst (λ (octets : List ℕ). ExtendsPlant p p' (sending Control c.args.from octets c.tell_stats.ensures.sent)) says c.tell_stats.ensures.told);
      is = c.is_stop-stop.ensures;
    }

pub returns : goal.returns
returns g c =
    let a : Arrival = record { from = c.args.from; cut = c.args.cut; octets = c.args.text.now } in
    let p = g.P.Plant.told c.args.plant.now in
    let p' = g.P.Plant.told c.send-sent.new.plant in
    let text = stats g (goal.at.returns g c).Start in
    let asks : (not (is_stop a) && is_stats a) ≡ false = ap (λ (b : Bool). not b && is_stats a) (sym c.is_stop-stop.ensures) ∙ sym c.if-asks_stats.ensures in
    let says : c.reply_to.result.now ≡ reply_text text a = c.reply_to.ensures ∙ ap (λ (b : Bool). cond b (codes "stopping\n") (codes "unknown\n")) c.is_stop-stop.ensures
    ∙ reply_of (is_stop a) (is_stats a) (codes "stopping\n") text (codes "unknown\n") asks in
    record {
      answered = c.send-sent.result;
      told = answered_as text p p' a c.send-sent.result (sym (c.if-not-is_near.ensures c.args.cut c.args.text.now))
          (subst (λ (octets : List ℕ). ExtendsPlant p p' (sending Control c.args.from octets c.send-sent.result)) says c.send-sent.ensures);
      is = c.is_stop-stop.ensures;
    }
