use Rattle.std.proofs.Common.{◌+◌, ◌≤◌, mul-le-mul, arith}
use Rattle.schedules.proofs.RaisedSchedule.amount.Goals as goal

pub thousandths_up-requires : goal.thousandths_up-requires
thousandths_up-requires g c =
    let few : c.amount.result ≤ 1000000000 = omega (arith, c.amount.ensures, (g.met.S.Schedule.scheduled c.args.self.now.schedule).most c.args.product) in
    let percent : 100 + c.args.self.now.by.percent ≤ 200 = omega (arith, c.args.self.now.by.most) in
    mul-le-mul few percent
