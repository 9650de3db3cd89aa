use Rattle.host.proofs.Fresh.{element_found, element_no, element_not_told}
use Rattle.host.proofs.coded_server_element.Goals as goal

pub returns-in-Err : goal.returns-in-Err
returns-in-Err c = element_not_told _ _ _ _ _ c.in-Err.ensures c.number.ensures

pub returns-in-Err-find : goal.returns-in-Err-find
returns-in-Err-find c = element_no _ _ _ c.args.store.now _ c.in-Ok.ensures c.in-Err-find.ensures c.number-in-Err-find.ensures

pub returns-in-Ok-find : goal.returns-in-Ok-find
returns-in-Ok-find c = element_found _ _ _ c.args.store.now _ c.in-Ok.ensures c.in-Ok-find.ensures c.unwrap_or.ensures
