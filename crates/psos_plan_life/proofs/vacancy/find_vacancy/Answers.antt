use Rattle.psos_plan_life.proofs.RoomSearch.{vacancy_found, room_found}
use Rattle.psos_plan_life.proofs.vacancy.find_vacancy.Goals as goal

pub returns : goal.returns
returns c =
    let room = room_found c.args.dir.now c.args.name.now c.args.trace c.if-is_empty.ensures c.requires.front in
    vacancy_found c.args.dir.now c.args.name.now c.args.trace room c.fresh.result c.fresh.ensures
